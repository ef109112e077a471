-- What is left of a walk: each node counts a size, with those below it, and each end of a list of children the same. A node has
-- one place in a document's tree, so a walk meets no node twice.
use Rattle.std.proofs.Common.{◌≡◌, ℕ, ◌+◌, ◌*◌, ◌≤◌, ◌<◌, Bool, true, false, not, ◌&&◌, if◌then◌else◌, List, [], ◌∷◌, ◌++◌, refl, ap, arith, zero, suc, eqb, Contains, Option, Some, None, sym, subst, inl, inr, append_assoc}
use Rattle.std.specs.Prelude.{codes}
use Rattle.std.specs.List.{AllByRecursion, IsDistinct}
use Rattle.std.specs.Option.{option_map_or}
use Rattle.std.specs.Str.{bytes_eq}
use Rattle.std.proofs.lemmas.Bool.{cases_Bool, eq-eqb, eqb-true}
use Rattle.std.proofs.lemmas.Map.Keys.{IsDistinct-tail}
use Rattle.std.proofs.lemmas.Slice.Eq.{bytes_eq-Decides}
use Rattle.html_render_dom_values.specs.Forest.{count}
use Rattle.html_render_dom_nodes.specs.Content.{Content, element as element_content, is_html}
use Rattle.html_render_dom_styles.specs.Rules.{Rule as StyleRule}
use Rattle.html_render_dom.specs.Dom.{Dom, IsForest, IsNode, children_at, content_at, tree_of, trees_of, IsInclusiveAncestor, above, itself, parent_at}
use Rattle.html_render_dom.proofs.Lists.{first_apart}
use Rattle.html_render_dom.specs.laws.Forests.{below_or_not}
use Rattle.html_render_dom.specs.laws.Members.{Contains-head, Contains-tail}
use Rattle.html_render_dom.specs.laws.Trees.{below-children, IsInclusiveAncestor-no_loop}
use Rattle.html_render_tree_walk.specs.Walk.{coming, entered, is_named, nodes, picked}
use Rattle.html_render_tree_walk.specs.declared.cursor.Pick.TheVariants.{All as all_children, Captions, Others, Feet}
use Rattle.html_render_tree_walk.specs.declared.cursor.Position.{Position}
use Rattle.html_render_tree_walk.specs.declared.cursor.Visit.{Visit}
use Rattle.html_render_tree_walk.specs.declared.cursor.Visit.TheVariants.{Node, Parts, Close}
use Rattle.html_render_tree_convert.specs.Plans.{plan_at}
use Rattle.html_render_tree_convert.specs.declared.mapping.ElementKind.{ElementKind}
use Rattle.html_render_tree_convert.specs.declared.mapping.ElementKind.TheVariants as element
use Rattle.html_render_tree_convert.specs.declared.plans.Plan.{Plan}
use Rattle.html_render_tree_convert.specs.declared.plans.Plan.TheVariants.{Nothing, Alone, Over}
use Rattle.html_render_tree_convert.specs.declared.tables.Part.TheVariants as part
use Rattle.html_render_tree_convert.specs.Visits.{first_pick, followed, added_visits, visited}
use Rattle.html_render_tree_convert.proofs.Closing.{filter-all}

-- no element is both a caption and a foot by its name
one_name : (c : Content) → (is_named (codes "caption") c && is_named (codes "tfoot") c) ≡ false
one_name (element_content name properties template_contents integration_point) =
    by (is_html name.space) (bytes_eq name.local (codes "caption")) refl
  where
    by : (h c : Bool) → bytes_eq name.local (codes "caption") ≡ c → ((h && c) && (h && bytes_eq name.local (codes "tfoot"))) ≡ false
    by true true e = ap (λ n. bytes_eq n (codes "tfoot")) ((bytes_eq-Decides name.local (codes "caption")).0 e)
    by h c e = refl
one_name c = refl

module _ (size : ℕ → ℕ) (end : ℕ) where
  abbrev pub visit_size : Visit → ℕ
  visit_size (Node h) = size h
  visit_size _ = end

  abbrev pub left : List Visit → ℕ
  left [] = 0
  left (v ∷ vs) = visit_size v + left vs

  -- nodes, with those below them
  abbrev pub sizes : List ℕ → ℕ
  sizes hs = left (nodes hs)

  pub left-append : (xs ys : List Visit) → left (xs ++ ys) ≡ left xs + left ys
  left-append [] ys = omega arith
  left-append (x ∷ xs) ys = omega (arith, left-append xs ys)

  -- captions, the others and feet are no more than all
  picked-one : (h : ℕ) (hs captions others feet : List ℕ) (caption foot : Bool) → (caption && foot) ≡ false →
      sizes captions + (sizes others + sizes feet) ≤ sizes hs →
      sizes (if caption then h ∷ captions else captions)
      + (sizes (if not caption && not foot then h ∷ others else others) + sizes (if foot then h ∷ feet else feet)) ≤ sizes (h ∷ hs)
  picked-one h hs captions others feet true true e le = cc
  picked-one h hs captions others feet true false e le = omega (arith, le)
  picked-one h hs captions others feet false true e le = omega (arith, le)
  picked-one h hs captions others feet false false e le = omega (arith, le)

  module _ (dom : Dom) where
    parts-all : (hs : List ℕ) → sizes (picked Captions dom hs) + (sizes (picked Others dom hs) + sizes (picked Feet dom hs)) ≤ sizes hs
    parts-all [] = omega arith
    parts-all (h ∷ hs) =
        let c = content_at dom h in
        picked-one h hs (picked Captions dom hs) (picked Others dom hs) (picked Feet dom hs) (is_named (codes "caption") c)
        (is_named (codes "tfoot") c) (one_name c) (parts-all hs)

    -- entering an element leaves its children, and two ends at most
    pub left-entered : (h : ℕ) (ps : List Position) (kind : ElementKind) →
        left (coming dom (entered h (first_pick kind) ∷ ps)) ≤ sizes (children_at dom h) + (end + end) + left (coming dom ps)
    left-entered h ps (element.Part part.Table) =
        let hs = children_at dom h in
        let others = nodes (picked Others dom hs) in
        let feet = nodes (picked Feet dom hs) in
        let rest = coming dom ps in
        omega (
          arith,
          left-append (nodes (picked Captions dom hs)) ((Parts ∷ (others ++ (feet ++ Close ∷ []))) ++ rest),
          left-append (others ++ (feet ++ Close ∷ [])) rest,
          left-append others (feet ++ Close ∷ []),
          left-append feet (Close ∷ []),
          parts-all hs,
        )
    left-entered h ps kind =
        let hs = children_at dom h in
        omega (arith, left-append (nodes (picked all_children dom hs)) (Close ∷ coming dom ps), ap sizes (filter-all hs))

-- ---- why a walk ends

module _ (dom : Dom) where
  -- a node counts thrice, since an element has an end, and a table the end of its captions too
  abbrev pub work : List Visit → ℕ
  work vs = left (λ h. 3 * count (tree_of dom h)) 1 vs

  work-nodes : (hs : List ℕ) → work (nodes hs) ≡ 3 * count (trees_of dom hs)
  work-nodes [] = refl
  work-nodes (h ∷ hs) = omega (arith, work-nodes hs)

  followed-work : IsForest dom → (plan : Plan) (h : ℕ) (ps : List Position) → IsNode dom h →
      work (coming dom (followed plan h ps)) < 3 * count (tree_of dom h) + work (coming dom ps)
  followed-work forest (Over e true) h ps at =
      omega (
        arith,
        left-entered (λ h. 3 * count (tree_of dom h)) 1 dom h ps e.kind,
        work-nodes (children_at dom h),
        ap count (below-children dom forest h at),
      )
  followed-work forest Nothing h ps at = omega arith
  followed-work forest (Alone n) h ps at = omega arith
  followed-work forest (Over e false) h ps at = omega arith

  -- a visit of a node leaves less
  pub node-less : IsForest dom → (plan : Plan) (h : ℕ) (old ps : List Position) → IsNode dom h → coming dom old ≡ Node h ∷ coming dom ps →
      work (coming dom (followed plan h ps)) < work (coming dom old)
  node-less forest plan h old ps at comes = omega (arith, followed-work forest plan h ps at, ap work comes)

-- ---- how often a walk meets a node

abbrev one : (x h : ℕ) → ℕ
one x h = if eqb x h then 1 else 0

one-yes : (x h : ℕ) → eqb x h ≡ true → one x h ≡ 1
one-yes x h e = ap (λ b. if b then 1 else 0) e

one-no : (x h : ℕ) → eqb x h ≡ false → one x h ≡ 0
one-no x h e = ap (λ b. if b then 1 else 0) e

one-le : (x h : ℕ) → one x h ≤ 1
one-le x h = elim (eqb x h) as (λ b. (if b then 1 else 0) ≤ 1) [ true ↦ omega arith | false ↦ omega arith ]

-- how often a number is x
abbrev often : (x : ℕ) → List ℕ → ℕ
often x hs = sizes (one x) 0 hs

member : (x : ℕ) (hs : List ℕ) → 0 < often x hs → Contains hs x
member x [] lt = absurd (omega (arith, lt))
member x (y ∷ ys) lt =
    elim (cases_Bool (eqb x y)) [
      | inl e ↦ subst (Contains (y ∷ ys)) (sym (eqb-true x y e)) (Contains-head y ys)
      | inr e ↦ Contains-tail y ys x (member x ys (omega (arith, lt, one-no x y e)))
    ]

once-often : (x : ℕ) (hs : List ℕ) → IsDistinct eqb hs → often x hs ≤ 1
once-often x [] d = omega arith
once-often x (y ∷ ys) d =
    elim (cases_Bool (eqb x y)) [
      | inr e ↦ omega (arith, one-no x y e, once-often x ys (IsDistinct-tail eqb y ys d))
      | inl e ↦ elim (below_or_not 0 (often x ys)) [
        | inl lt ↦ absurd (first_apart y ys d x (member x ys lt) (eqb-true x y e))
        | inr gone ↦ omega (arith, gone, one-yes x y e)
      ]
    ]

none-often : (x : ℕ) (hs : List ℕ) → often x hs ≤ 0 → AllByRecursion (λ y. eqb x y ≡ false) hs
none-often x [] h = tt
none-often x (y ∷ hs) h =
    elim (cases_Bool (eqb x y)) [
      | inl e ↦ absurd (omega (arith, h, one-yes x y e))
      | inr e ↦ (e, none-often x hs (omega (arith, h)))
    ]

distinct-once : (hs : List ℕ) → ((x : ℕ) → often x hs ≤ 1) → IsDistinct eqb hs
unfolding IsDistinct
distinct-once [] h = tt
distinct-once (y ∷ hs) h = (none-often y hs (omega (arith, h y, one-yes y y (eq-eqb y y refl))), distinct-once hs (λ x. omega (arith, h x)))

module _ (dom : Dom) (forest : IsForest dom) where
  -- how often a node is x, or one of its next `n` ancestors
  abbrev over : (n x h : ℕ) → ℕ
  over zero x h = one x h
  over (suc n) x h = one x h + option_map_or (λ p. over n p h) (parent_at dom x) 0

  over-more : (n x h : ℕ) → over n x h ≤ over (suc n) x h
  over-more zero x h = omega arith
  over-more (suc n) x h = by (parent_at dom x) (λ p. over-more n p h)
    where
      by : (o : Option ℕ) → ((p : ℕ) → over n p h ≤ over (suc n) p h) →
          one x h + option_map_or (λ p. over n p h) o 0 ≤ one x h + option_map_or (λ p. over (suc n) p h) o 0
      by None le = omega arith
      by (Some p) le = omega (arith, le p)

  left-more : (n x : ℕ) (vs : List Visit) → left (over n x) 0 vs ≤ left (over (suc n) x) 0 vs
  left-more n x [] = omega arith
  left-more n x (Node h ∷ vs) = omega (arith, over-more n x h, left-more n x vs)
  left-more n x (Parts ∷ vs) = omega (arith, left-more n x vs)
  left-more n x (Close ∷ vs) = omega (arith, left-more n x vs)

  -- a node that is counted is x or above it
  counted-over : (x h rest : ℕ) → (0 < rest → IsInclusiveAncestor dom h x) → 0 < one x h + rest → IsInclusiveAncestor dom h x
  counted-over x h rest further lt =
      elim (cases_Bool (eqb x h)) [
        | inl e ↦ subst (λ z. IsInclusiveAncestor dom h z) (sym (eqb-true x h e)) itself
        | inr e ↦ further (omega (arith, lt, one-no x h e))
      ]

  over-ancestor : (n x h : ℕ) → 0 < over n x h → IsInclusiveAncestor dom h x
  over-ancestor zero x h lt = counted-over x h 0 (λ no. absurd (omega (arith, no))) (omega (arith, lt))
  over-ancestor (suc n) x h lt = counted-over x h _ (by (parent_at dom x) refl (λ p. over-ancestor n p h)) lt
    where
      by : (o : Option ℕ) → parent_at dom x ≡ o → ((p : ℕ) → 0 < over n p h → IsInclusiveAncestor dom h p) →
          0 < option_map_or (λ p. over n p h) o 0 → IsInclusiveAncestor dom h x
      by None e further lt = absurd (omega (arith, lt))
      by (Some p) e further lt = above p e (further p lt)

  -- the document is above a node once, since no node is above itself
  root-once : (n x : ℕ) → over n x 0 ≤ 1
  root-once zero x = one-le x 0
  root-once (suc n) x = by (parent_at dom x) refl (root-once n)
    where
      by : (o : Option ℕ) → parent_at dom x ≡ o → ((p : ℕ) → over n p 0 ≤ 1) → one x 0 + option_map_or (λ p. over n p 0) o 0 ≤ 1
      by None e once = omega (arith, one-le x 0)
      by (Some p) e once =
          elim (cases_Bool (eqb x 0)) [
            | inr d ↦ omega (arith, one-no x 0 d, once p)
            | inl d ↦ elim (below_or_not 0 (over n p 0)) [
              | inr gone ↦ omega (arith, gone, one-yes x 0 d)
              | inl lt ↦ absurd (IsInclusiveAncestor-no_loop dom forest x p e
                  (subst (λ z. IsInclusiveAncestor dom z p) (sym (eqb-true x 0 d)) (over-ancestor n p 0 lt)))
            ]
          ]

  -- x is once among the children of its parent
  child-once : (x h : ℕ) → often x (children_at dom h) ≤ option_map_or (λ p. one p h) (parent_at dom x) 0
  child-once x h =
      elim (below_or_not 0 (often x (children_at dom h))) [
        | inl lt ↦ rw (forest.child_names_parent h x (member x (children_at dom h) lt))
            (omega (arith, once-often x (children_at dom h) (forest.once h), one-yes h h (eq-eqb h h refl)))
        | inr gone ↦ omega (arith, gone)
      ]

  split : (n x : ℕ) (o : Option ℕ) (hs : List ℕ) → sizes (λ h. one x h + option_map_or (λ p. over n p h) o 0) 0 hs
      ≡ often x hs + option_map_or (λ p. sizes (over n p) 0 hs) o 0
  split n x None [] = refl
  split n x (Some p) [] = refl
  split n x None (h ∷ hs) = omega (arith, split n x None hs)
  split n x (Some p) (h ∷ hs) = omega (arith, split n x (Some p) hs)

  -- the children of a node are as often above x as the node is above its parent
  children-over : (n x h : ℕ) → sizes (over n x) 0 (children_at dom h) ≤ option_map_or (λ p. over n p h) (parent_at dom x) 0
  children-over zero x h = child-once x h
  children-over (suc n) x h = by (parent_at dom x) (child-once x h) (λ p. children-over n p h)
    where
      by : (o : Option ℕ) → often x (children_at dom h) ≤ option_map_or (λ p. one p h) o 0 →
          ((p : ℕ) → sizes (over n p) 0 (children_at dom h) ≤ option_map_or (λ q. over n q h) (parent_at dom p) 0) →
          sizes (λ g. one x g + option_map_or (λ p. over n p g) o 0) 0 (children_at dom h) ≤ option_map_or (λ p. over (suc n) p h) o 0
      by None le more = omega (arith, le, split n x None (children_at dom h))
      by (Some p) le more = omega (arith, le, split n x (Some p) (children_at dom h), more p)

  -- the visits in a node meet x no more often than the node is above its parent
  added-le : (n x : ℕ) (plan : Plan) (h : ℕ) → left (over n x) 0 (coming dom (followed plan h [])) ≤ option_map_or (λ p. over n p h) (parent_at dom x) 0
  added-le n x (Over e true) h = omega (arith, left-entered (over n x) 0 dom h [] e.kind, children-over n x h)
  added-le n x Nothing h = omega arith
  added-le n x (Alone m) h = omega arith
  added-le n x (Over e false) h = omega arith

  module _ (rules : List StyleRule) (x : ℕ) where
    visited-le : (n : ℕ) (vs : List Visit) → often x (visited n rules dom vs) ≤ left (over n x) 0 vs
    visited-le zero vs = omega arith
    visited-le (suc n) [] = omega arith
    visited-le (suc n) (Node h ∷ vs) =
        omega (
          arith,
          visited-le n (added_visits rules dom h ++ vs),
          left-append (over n x) 0 (added_visits rules dom h) vs,
          added-le n x (plan_at rules dom h) h,
          left-more n x vs,
        )
    visited-le (suc n) (Parts ∷ vs) = omega (arith, visited-le n vs, left-more n x vs)
    visited-le (suc n) (Close ∷ vs) = omega (arith, visited-le n vs, left-more n x vs)

pub no_node_twice : (rules : List StyleRule) (dom : Dom) → IsForest dom → (n : ℕ) → IsDistinct eqb (visited n rules dom (Node 0 ∷ []))
no_node_twice rules dom forest n =
    distinct-once (visited n rules dom (Node 0 ∷ []))
    (λ x. omega (arith, visited-le dom forest rules x n (Node 0 ∷ []), root-once dom forest n x))

-- ---- visits that are added

pub followed_append : (dom : Dom) (plan : Plan) (h : ℕ) (ps : List Position) →
    coming dom (followed plan h ps) ≡ coming dom (followed plan h []) ++ coming dom ps
followed_append dom (Over e true) h ps = simp append_assoc
followed_append dom Nothing h ps = refl
followed_append dom (Alone n) h ps = refl
followed_append dom (Over e false) h ps = refl
