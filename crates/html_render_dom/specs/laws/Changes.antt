-- Contents, lists and parents of the nodes of a changed document.
use Rattle.std.specs.Prelude.{◌≡◌, ◌≢◌, ℕ, zero, suc, ◌<◌, ◌≤◌, ◌-◌, List, [], ◌∷◌, ◌++◌, length, slice_set, Option, Some, Contains}
use Rattle.std.proofs.Common.{◌⊎◌, inl, inr, refl, sym, ap, ◌∙◌, arith, length-append}
use Rattle.std.proofs.lemmas.Bool.Decides.{eqb_tells}
use Rattle.std.proofs.lemmas.List.{get_or-set_same, get_or-set_other, length-set, get_or_past, get_or_append_left, get_or-append_right}
use Rattle.html_render_dom_nodes.specs.Content.{Content, document}
use Rattle.html_render_dom_nodes.specs.Nodes.{Node, lone, node_in}
use Rattle.html_render_dom.specs.Dom.{Dom, node_count, IsNode, content_at, children_at, parent_at, IsForest, IsInclusiveAncestor, itself, above}
use Rattle.html_render_dom_nodes.specs.Edits.{with_children, with_parent, created}
use Rattle.html_render_dom_nodes.specs.Moves.{with_parents, reparented}
use Rattle.html_render_dom.specs.laws.Forests.{below_or_not, IfSome-parent}
use Rattle.html_render_dom.specs.laws.Members.{Contains-nil, Contains-head, Contains-tail, Contains-cons_cases}

-- ---- writing one node

pub there : {X : Type 0} (f : Node → X) (nodes : List Node) (i : ℕ) (n : Node) → i < length nodes → f (node_in (slice_set nodes i n) i) ≡ f n
there f nodes i n at = ap f (get_or-set_same nodes i n (lone document) at)

pub elsewhere : {X : Type 0} (f : Node → X) (nodes : List Node) (i : ℕ) (n : Node) (h : ℕ) → h ≢ i →
    f (node_in (slice_set nodes i n) h) ≡ f (node_in nodes h)
elsewhere f nodes i n h other = ap f (get_or-set_other nodes i h n (lone document) other)

-- a function of nodes that the written node doesn't change has its old value at every node
pub kept : {X : Type 0} (f : Node → X) (nodes : List Node) (i : ℕ) (n : Node) → i < length nodes → f n ≡ f (node_in nodes i) → (h : ℕ) →
    f (node_in (slice_set nodes i n) h) ≡ f (node_in nodes h)
kept f nodes i n at same h =
    elim (eqb_tells h i) [
      | inl e ↦ rw e.1 (there f nodes i n at ∙ same)
      | inr d ↦ elsewhere f nodes i n h d.1
    ]

-- ---- appending a node

pub older : (nodes : List Node) (c : Content) (h : ℕ) → h < length nodes → node_in (created nodes c) h ≡ node_in nodes h
older nodes c h at = get_or_append_left nodes (lone c ∷ []) (lone document) h at

-- whether two documents have equal lists and parents, and the new one has at least the nodes of the old one
pub record SameShape (old new : Dom) : Type 0 where
  pub grows : node_count old ≤ node_count new
  pub children : (h : ℕ) → children_at new h ≡ children_at old h
  pub parents : (h : ℕ) → parent_at new h ≡ parent_at old h

-- appending a node without a parent or children leaves all lists and parents unchanged
pub created-shape : (dom : Dom) (c : Content) → SameShape dom (record dom { nodes = created dom.nodes c })
created-shape dom c = record {
  grows = omega (arith, length-append dom.nodes (lone c ∷ []));
  children = created-kept (λ n. n.children) refl;
  parents = created-kept (λ n. n.parent) refl;
}
  where
    one : {X : Type 0} (f : Node → X) → f (lone c) ≡ f (lone document) → (k : ℕ) → f (node_in (lone c ∷ []) k) ≡ f (lone document)
    one f e zero = e
    one f e (suc k) = refl

    created-kept : {X : Type 0} (f : Node → X) → f (lone c) ≡ f (lone document) → (h : ℕ) →
        f (node_in (created dom.nodes c) h) ≡ f (node_in dom.nodes h)
    created-kept f e h =
        elim (below_or_not h (length dom.nodes)) [
          | inl lt ↦ ap f (older dom.nodes c h lt)
          | inr ge ↦ ap f (get_or-append_right dom.nodes (lone c ∷ []) (length dom.nodes) h (lone document) refl ge)
              ∙ one f e (h - length dom.nodes) ∙ sym (ap f (get_or_past dom.nodes h (lone document) ge))
        ]

-- if the old nodes keep their parents, the next number is an ancestor of none of them
pub above_no_older : {old new : Dom} → IsForest old → ((h : ℕ) → IsNode old h → parent_at new h ≡ parent_at old h) → (h : ℕ) →
    IsNode old h → IsInclusiveAncestor new (node_count old) h → ⊥
above_no_older f same h at itself = omega arith
above_no_older {old} f same h at (above p e up) = above_no_older f same p (IfSome-parent old f h (Some p) (sym e ∙ same h at)) up

-- ---- writing one list and one parent

pub record Rewrites (old new : Dom) (p : ℕ) (xs : List ℕ) (c : ℕ) (q : Option ℕ) : Type 0 where
  pub count : node_count new ≡ node_count old
  pub contents : (h : ℕ) → content_at new h ≡ content_at old h
  pub list_there : children_at new p ≡ xs
  pub lists_elsewhere : (h : ℕ) → h ≢ p → children_at new h ≡ children_at old h
  pub parent_there : parent_at new c ≡ q
  pub parents_elsewhere : (h : ℕ) → h ≢ c → parent_at new h ≡ parent_at old h

pub rewritten : (dom : Dom) (p : ℕ) (xs : List ℕ) (c : ℕ) (q : Option ℕ) → IsNode dom p → IsNode dom c →
    Rewrites dom (record dom { nodes = with_parent (with_children dom.nodes p xs) c q }) p xs c q
rewritten dom p xs c q at_p at_c =
    let listed = with_children dom.nodes p xs in
    let m = record (node_in dom.nodes p) { children = xs } in
    let count : length listed ≡ length dom.nodes = length-set dom.nodes p m in
    let at : c < length listed = omega (arith, count, at_c) in
    let n = record (node_in listed c) { parent = q } in
    record {
      count = length-set listed c n ∙ count;
      contents = λ h. kept (λ x. x.content) listed c n at refl h ∙ kept (λ x. x.content) dom.nodes p m at_p refl h;
      list_there = kept (λ x. x.children) listed c n at refl p ∙ there (λ x. x.children) dom.nodes p m at_p;
      lists_elsewhere = λ h other. kept (λ x. x.children) listed c n at refl h ∙ elsewhere (λ x. x.children) dom.nodes p m h other;
      parent_there = there (λ x. x.parent) listed c n at;
      parents_elsewhere = λ h other. elsewhere (λ x. x.parent) listed c n h other ∙ kept (λ x. x.parent) dom.nodes p m at_p refl h;
    }

-- ---- moving all children to another parent

module _ (p : ℕ) where
  parents-count : (nodes : List Node) (cs : List ℕ) → length (with_parents nodes cs p) ≡ length nodes
  parents-count nodes [] = refl
  parents-count nodes (c ∷ cs) = parents-count (with_parent nodes c (Some p)) cs ∙ length-set nodes c _

  -- the other children are still below the length after the first one's parent is set
  later : (nodes : List Node) (c : ℕ) (cs : List ℕ) → ((x : ℕ) → Contains (c ∷ cs) x → x < length nodes) → (x : ℕ) → Contains cs x →
      x < length (with_parent nodes c (Some p))
  later nodes c cs at x m = omega (arith, at x (Contains-tail c cs x m), length-set nodes c (record (node_in nodes c) { parent = Some p }))

  parents-kept : {X : Type 0} (f : Node → X) → ((n : Node) (q : Option ℕ) → f (record n { parent = q }) ≡ f n) →
      (nodes : List Node) (cs : List ℕ) → ((x : ℕ) → Contains cs x → x < length nodes) → (h : ℕ) →
      f (node_in (with_parents nodes cs p) h) ≡ f (node_in nodes h)
  parents-kept f same nodes [] at h = refl
  parents-kept f same nodes (c ∷ cs) at h =
      parents-kept f same (with_parent nodes c (Some p)) cs (later nodes c cs at) h
      ∙ kept f nodes c (record (node_in nodes c) { parent = Some p }) (at c (Contains-head c cs)) (same (node_in nodes c) (Some p)) h

  -- a node has the parent p afterwards if it is one of cs, or had it before
  named-in : (nodes : List Node) (cs : List ℕ) → ((x : ℕ) → Contains cs x → x < length nodes) → (h : ℕ) →
      Contains cs h ⊎ ((node_in nodes h).parent ≡ Some p) → (node_in (with_parents nodes cs p) h).parent ≡ Some p
  named-in nodes [] at h (inl l) = absurd (Contains-nil h l)
  named-in nodes [] at h (inr e) = e
  named-in nodes (c ∷ cs) at h l =
      let n = record (node_in nodes c) { parent = Some p } in
      let on = named-in (with_parent nodes c (Some p)) cs (later nodes c cs at) h in
      elim (eqb_tells h c) [
        | inl s ↦ on (inr (rw s.1 (there (λ x. x.parent) nodes c n (at c (Contains-head c cs)))))
        | inr d ↦ elim l [
          | inl m ↦ elim (Contains-cons_cases c cs h m) [ inl e ↦ absurd (d.1 (sym e)) | inr t ↦ on (inl t) ]
          | inr e ↦ on (inr (elsewhere (λ x. x.parent) nodes c n h d.1 ∙ e))
        ]
      ]

  named-out : (nodes : List Node) (cs : List ℕ) (h : ℕ) → (Contains cs h → ⊥) →
      (node_in (with_parents nodes cs p) h).parent ≡ (node_in nodes h).parent
  named-out nodes [] h out = refl
  named-out nodes (c ∷ cs) h out =
      named-out (with_parent nodes c (Some p)) cs h (λ l. out (Contains-tail c cs h l))
      ∙ elsewhere (λ x. x.parent) nodes c _ h (λ e. out (rw e (Contains-head c cs)))

pub record Reparents (old new : Dom) (u v : ℕ) : Type 0 where
  pub count : node_count new ≡ node_count old
  pub contents : (h : ℕ) → content_at new h ≡ content_at old h
  pub list_from : children_at new u ≡ []
  pub list_to : children_at new v ≡ children_at old v ++ children_at old u
  pub lists_elsewhere : (h : ℕ) → h ≢ u → h ≢ v → children_at new h ≡ children_at old h
  pub named : (h : ℕ) → Contains (children_at old u) h → parent_at new h ≡ Some v
  pub parents_elsewhere : (h : ℕ) → (Contains (children_at old u) h → ⊥) → parent_at new h ≡ parent_at old h

pub reparented-facts : (dom : Dom) (u v : ℕ) → IsNode dom u → IsNode dom v → u ≢ v →
    ((x : ℕ) → Contains (children_at dom u) x → IsNode dom x) → Reparents dom (record dom { nodes = reparented dom.nodes u v }) u v
reparented-facts dom u v at_u at_v apart nodes =
    let cs = children_at dom u in
    let m = record (node_in dom.nodes u) { children = [] } in
    let cleared = with_children dom.nodes u [] in
    let count_1 : length cleared ≡ length dom.nodes = length-set dom.nodes u m in
    let n = record (node_in cleared v) { children = (node_in cleared v).children ++ cs } in
    let listed = with_children cleared v ((node_in cleared v).children ++ cs) in
    let count_2 : length listed ≡ length cleared = length-set cleared v n in
    let in_v : v < length cleared = omega (arith, count_1, at_v) in
    let at : (x : ℕ) → Contains cs x → x < length listed = λ x l. omega (arith, count_1, count_2, nodes x l) in
    let list = parents-kept v (λ x. x.children) (λ x q. refl) listed cs at in
    record {
      count = parents-count v listed cs ∙ count_2 ∙ count_1;
      contents = λ h. parents-kept v (λ x. x.content) (λ x q. refl) listed cs at h ∙ kept (λ x. x.content) cleared v n in_v refl h
          ∙ kept (λ x. x.content) dom.nodes u m at_u refl h;
      list_from = list u ∙ elsewhere (λ x. x.children) cleared v n u apart ∙ there (λ x. x.children) dom.nodes u m at_u;
      list_to = list v ∙ there (λ x. x.children) cleared v n in_v
          ∙ ap (λ ys. ys ++ cs) (elsewhere (λ x. x.children) dom.nodes u m v (λ e. apart (sym e)));
      lists_elsewhere = λ h not_u not_v. list h ∙ elsewhere (λ x. x.children) cleared v n h not_v
          ∙ elsewhere (λ x. x.children) dom.nodes u m h not_u;
      named = λ h l. named-in v listed cs at h (inl l);
      parents_elsewhere = λ h out. named-out v listed cs h out ∙ kept (λ x. x.parent) cleared v n in_v refl h
          ∙ kept (λ x. x.parent) dom.nodes u m at_u refl h;
    }
