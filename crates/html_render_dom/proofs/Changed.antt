-- A forest remains a forest if lists and parents are changed in agreement.
use Rattle.std.proofs.Common.{◌≡◌, ◌≢◌, ℕ, ◌≤◌, List, [], ◌∷◌, Option, Some, None, Contains, nat_eq, ◌⊎◌, inl, inr, refl, sym, ap, ◌∙◌, subst, arith}
use Rattle.std.specs.List.{IsDistinct}
use Rattle.std.specs.List.Sorted.{IsPermutation}
use Rattle.std.proofs.lemmas.Bool.Decides.{eqb_tells}
use Rattle.std.proofs.lemmas.Cmp.{nat_eq_equiv}
use Rattle.std.proofs.lemmas.List.Sorted.{Contains-permutation, IsPermutation-sym}
use Rattle.std.proofs.lemmas.Map.Keys.{IsDistinct-IsPermutation}
use Rattle.html_render_dom.proofs.Lists.{IsDistinct-fresh}
use Rattle.html_render_dom_nodes.specs.Content.{Content, document}
use Rattle.html_render_dom_nodes.specs.Elements.{contents_in}
use Rattle.html_render_dom_nodes.specs.Nodes.{Node}
use Rattle.html_render_dom_values.specs.Forest.{Forest, none, node}
use Rattle.html_render_dom.specs.Dom.{Dom, node_count, IsNode, content_at, children_at, parent_at, IsInclusiveAncestor, itself, above, HaveTrees, IsForest}
use Rattle.html_render_dom.specs.laws.Changes.{SameShape, Rewrites}
use Rattle.html_render_dom.specs.laws.Forests.{below_or_not, children_at-past}
use Rattle.html_render_dom.specs.laws.Members.{Contains-nil, Contains-head, Contains-tail, Contains-cons_cases, Contains-single}

-- the parent of an inclusive ancestor of a node is an inclusive ancestor of that node
pub descend : (dom : Dom) (h k : ℕ) → parent_at dom k ≡ Some h → {x : ℕ} → IsInclusiveAncestor dom k x → IsInclusiveAncestor dom h x
descend dom h k e itself = above h e itself
descend dom h k e (above p q r) = above p q (descend dom h k e r)

-- a change of a document's nodes leaves a forest if the same change of an equal document does
pub IsForest-changed : (change : List Node → List Node) {dom now : Dom} → dom ≡ now → IsForest dom →
    (IsForest now → IsForest (record now { nodes = change now.nodes })) → (nodes : List Node) → nodes ≡ change dom.nodes →
    IsForest (record dom { nodes = nodes })
IsForest-changed change {dom} {now} same f forest nodes e =
    subst (λ ns. IsForest (record dom { nodes = ns })) (sym e)
    (subst (λ d. IsForest (record d { nodes = change d.nodes })) (sym same) (forest (subst IsForest same f)))

-- ---- a forest after some nodes moved

-- whether new is old with nodes cs moved into the list of p: every other member of a list was in it before, lists and
-- parents agree, a list has a child once, and no node is gone
pub record Moves (old new : Dom) (p : ℕ) (cs : List ℕ) : Type 0 where
  pub grows : node_count old ≤ node_count new
  pub listed : (q x : ℕ) → Contains (children_at new q) x → Contains (children_at old q) x ⊎ ((q ≡ p) × Contains cs x)
  pub names : (q x : ℕ) → Contains (children_at new q) x → parent_at new x ≡ Some q
  pub lists : (q x : ℕ) → parent_at new x ≡ Some q → Contains (children_at new q) x
  pub once : (q : ℕ) → IsDistinct nat_eq (children_at new q)

-- a tree with the root h
abbrev Tree : Dom → ℕ → Type 0
Tree dom h = (t : Forest Content) × HaveTrees dom (h ∷ []) t

-- the trees of a list of nodes, from the tree of each
collected : (dom : Dom) (hs : List ℕ) → ((h : ℕ) → Contains hs h → Tree dom h) → (t : Forest Content) × HaveTrees dom hs t
collected dom [] each = (none, tt)
collected dom (h ∷ hs) each =
    beside (each h (Contains-head h hs)) (collected dom hs (λ x m. each x (Contains-tail h hs x m)))
  where
    beside : Tree dom h → ((t : Forest Content) × HaveTrees dom hs t) → (t : Forest Content) × HaveTrees dom (h ∷ hs) t
    beside (none, s) others = absurd s
    beside (node c kids u, s) others = (node c kids others.0, (s.0, s.1, s.2, others.1))

-- the tree of a node, from those of its children
grown : (dom : Dom) (h : ℕ) → IsNode dom h → ((x : ℕ) → Contains (children_at dom h) x → Tree dom x) → Tree dom h
grown dom h at each =
    let kids = collected dom (children_at dom h) each in
    (node (content_at dom h) kids.0 none, (at, refl, kids.1, tt))

module _ {old new : Dom} {p : ℕ} {cs : List ℕ} (m : Moves old new p cs) (f : IsForest old) (nodes : (c : ℕ) → Contains cs c → IsNode old c)
    (away : (c : ℕ) → Contains cs c → IsInclusiveAncestor old c p → ⊥) where
  -- nodes with a property that children inherit have trees in new, if the moved nodes have trees in case p has the property
  trees_of_kind : (P : ℕ → Type 0) → ((q x : ℕ) → P q → Contains (children_at old q) x → P x) →
      (P p → (x : ℕ) → Contains cs x → Tree new x) → (h : ℕ) → IsNode old h → P h → Tree new h
  trees_of_kind P down come h at is = let t = f.finite h at in go t.0 (h ∷ []) t.1 (Contains-single P h is) h (Contains-head h [])
    where
      go : (t : Forest Content) (hs : List ℕ) → HaveTrees old hs t → ((x : ℕ) → Contains hs x → P x) → (x : ℕ) → Contains hs x → Tree new x
      go none [] s are x l = absurd (Contains-nil x l)
      go (node k kids beside) (y ∷ hs) s are x l =
          let here = are y (Contains-head y hs) in
          let this = grown new y (omega (arith, s.0, m.grows)) (λ z w. elim (m.listed y z w) [
            | inl o ↦ go kids (children_at old y) s.2 (λ v u. down y v here u) z o
            | inr n ↦ come (subst P n.0 here) z n.1
          ]) in
          elim (Contains-cons_cases y hs x l) [
            | inl e ↦ subst (Tree new) e this
            | inr r ↦ go beside hs s.3 (λ v u. are v (Contains-tail y hs v u)) x r
          ]
      go t hs s are x l = absurd s

  -- a moved node has a tree in new, since p isn't in its old tree
  tree_moved : (c : ℕ) → Contains cs c → Tree new c
  tree_moved c l = trees_of_kind (λ h. IsInclusiveAncestor old h p → ⊥)
      (λ q x out z up. out (descend old q x (f.child_names_parent q x z) up)) (λ out. absurd (out itself)) c (nodes c l) (away c l)

  tree_anywhere : (h : ℕ) → IsNode new h → Tree new h
  tree_anywhere h at = elim (below_or_not h (node_count old)) [
    | inl lt ↦ trees_of_kind (λ h. Unit {0}) (λ q x u z. tt) (λ u. tree_moved) h lt tt
    | inr ge ↦ grown new h at (λ x l. elim (m.listed h x l) [
      | inl o ↦ absurd (Contains-nil x (rw (children_at-past old h ge) at o))
      | inr n ↦ tree_moved x n.1
    ])
  ]

  pub IsForest-moved : content_at new 0 ≡ document → ((h c : ℕ) → contents_in (content_at new h) ≡ Some c → IsNode new c) → IsForest new
  IsForest-moved top template_contents = record {
    has_document = omega (arith, f.has_document, m.grows);
    document_content = top;
    child_is_node = λ q x l. elim (m.listed q x l) [
      | inl o ↦ omega (arith, f.child_is_node q x o, m.grows)
      | inr n ↦ omega (arith, nodes x n.1, m.grows)
    ];
    child_names_parent = m.names;
    parent_lists_child = m.lists;
    once = m.once;
    template_contents_is_node = template_contents;
    finite = tree_anywhere;
  }

  -- moved nodes leave a forest if all contents are unchanged
  pub IsForest-same_contents : ((h : ℕ) → content_at new h ≡ content_at old h) → IsForest new
  IsForest-same_contents same = IsForest-moved (same 0 ∙ f.document_content)
      (λ h c e. omega (arith, f.template_contents_is_node h c (ap contents_in (sym (same h)) ∙ e), m.grows))

pub IsForest-same_shape : {old new : Dom} → SameShape old new → content_at new 0 ≡ document →
    ((h c : ℕ) → contents_in (content_at new h) ≡ Some c → IsNode new c) → IsForest old → IsForest new
IsForest-same_shape {old} {new} s top template_contents f =
    IsForest-moved moves f (λ x l. absurd (Contains-nil x l)) (λ x l. absurd (Contains-nil x l)) top template_contents
  where
    moves : Moves old new 0 []
    moves = record {
      grows = s.grows;
      listed = λ q x l. inl (rw s.children at l);
      names = λ q x l. rw s.parents (f.child_names_parent q x (rw s.children at l));
      lists = λ q x e. rw s.children (f.parent_lists_child q x (rw s.parents at e));
      once = λ q. rw s.children (f.once q);
    }

-- ---- a forest after one list and one parent are rewritten

-- whether xs is the list of p in old, except for c: xs has c exactly if q, the new parent of c, is p; no other list of old
-- has c
pub record Relists (old : Dom) (p : ℕ) (xs : List ℕ) (c : ℕ) (q : Option ℕ) : Type 0 where
  pub from : (x : ℕ) → Contains xs x → (Contains (children_at old p) x × (x ≢ c)) ⊎ ((c ≡ x) × (q ≡ Some p))
  pub still : (x : ℕ) → Contains (children_at old p) x → x ≢ c → Contains xs x
  pub comes : (r : ℕ) → q ≡ Some r → (r ≡ p) × Contains xs c
  pub nowhere_else : (r : ℕ) → r ≢ p → Contains (children_at old r) c → ⊥
  pub once : IsDistinct nat_eq xs

module _ {old new : Dom} {p c : ℕ} {xs : List ℕ} {q : Option ℕ} (f : IsForest old) (a : Rewrites old new p xs c q) (b : Relists old p xs c q) where
  listed : (r x : ℕ) → Contains (children_at new r) x → (Contains (children_at old r) x × (x ≢ c)) ⊎ ((r ≡ p) × (c ≡ x) × (q ≡ Some p))
  listed r x l =
      elim (eqb_tells r p) [
        | inl e ↦ elim (b.from x (rw (e.1, a.list_there) at l)) [ inl o ↦ inl (rw e.1 o.0, o.1) | inr n ↦ inr (e.1, n.0, n.1) ]
        | inr d ↦ (let o = rw (a.lists_elsewhere r d.1) at l in inl (o, λ e. b.nowhere_else r d.1 (subst (Contains (children_at old r)) e o)))
      ]

  lists : (r x : ℕ) → parent_at new x ≡ Some r → Contains (children_at new r) x
  lists r x e =
      elim (eqb_tells x c) [
        | inl s ↦ (let t = b.comes r (sym a.parent_there ∙ (rw s.1 at e)) in rw (s.1, t.0, a.list_there) t.1)
        | inr d ↦ (let o = f.parent_lists_child r x (sym (a.parents_elsewhere x d.1) ∙ e) in
            elim (eqb_tells r p) [
              | inl s ↦ rw (s.1, a.list_there) (b.still x (rw s.1 at o) d.1)
              | inr n ↦ rw (a.lists_elsewhere r n.1) o
            ])
      ]

  Moves-relisted : (cs : List ℕ) → (q ≡ Some p → Contains cs c) → Moves old new p cs
  Moves-relisted cs there = record {
    grows = omega (arith, a.count);
    listed = λ r x l. elim (listed r x l) [ inl o ↦ inl o.0 | inr n ↦ inr (n.0, subst (Contains cs) n.1 (there n.2)) ];
    names = λ r x l. elim (listed r x l) [
      | inl o ↦ a.parents_elsewhere x o.1 ∙ f.child_names_parent r x o.0
      | inr n ↦ rw (n.0, ← n.1) (a.parent_there ∙ n.2)
    ];
    lists = lists;
    once = λ r. elim (eqb_tells r p) [
      | inl s ↦ rw (s.1, a.list_there) b.once
      | inr d ↦ rw (a.lists_elsewhere r d.1) (f.once r)
    ];
  }

-- a forest remains one if c is removed from the list of p
pub IsForest-taken : {old new : Dom} {p c : ℕ} {xs : List ℕ} → IsForest old → Rewrites old new p xs c None → Relists old p xs c None → IsForest new
IsForest-taken f a b = IsForest-same_contents (Moves-relisted f a b [] (λ e. absurd (cc))) f (λ x l. absurd (Contains-nil x l))
    (λ x l. absurd (Contains-nil x l)) a.contents

-- a forest remains one if c, which has no parent, is inserted into the list of p
pub IsForest-put : {old new : Dom} {p c : ℕ} {xs : List ℕ} → IsForest old → parent_at old c ≡ None → Rewrites old new p xs c (Some p) →
    IsPermutation (c ∷ children_at old p) xs → IsNode old c → (IsInclusiveAncestor old c p → ⊥) → IsForest new
IsForest-put {old} {new} {p} {c} {xs} f lone_c a moved at away =
    IsForest-same_contents (Moves-relisted f a relists (c ∷ []) (λ e. Contains-head c [])) f (Contains-single (IsNode old) c at)
    (Contains-single (λ x. IsInclusiveAncestor old x p → ⊥) c away) a.contents
  where
    -- a node in a list has a parent, so it isn't c
    not_c : (q x : ℕ) → Contains (children_at old q) x → x ≢ c
    not_c q x l e = let named = f.child_names_parent q x l in let p_c : parent_at old x ≡ None = rw e lone_c in cc

    relists : Relists old p xs c (Some p)
    relists = let cs = children_at old p in record {
      from = λ x l. elim (Contains-cons_cases c cs x (Contains-permutation xs (c ∷ cs) x (IsPermutation-sym (c ∷ cs) xs moved) l)) [
        | inl e ↦ inr (e, refl)
        | inr o ↦ inl (o, not_c p x o)
      ];
      still = λ x l other. Contains-permutation (c ∷ cs) xs x moved (Contains-tail c cs x l);
      comes = λ r e. (let same : r ≡ p = cc in same, Contains-permutation (c ∷ cs) xs c moved (Contains-head c cs));
      nowhere_else = λ r d l. not_c r c l refl;
      once = IsDistinct-IsPermutation nat_eq nat_eq_equiv.symm (c ∷ cs) xs moved (IsDistinct-fresh c cs (f.once p) (λ l. not_c p c l refl));
    }
