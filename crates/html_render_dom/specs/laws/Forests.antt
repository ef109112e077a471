-- Laws of every document that is a forest.
use Rattle.std.specs.Prelude.{◌≡◌, ℕ, zero, suc, ◌<◌, ◌≤◌, List, [], Option, Some, None, IfSome, All, Contains, nat_eq}
use Rattle.std.specs.List.{IsDistinct}
use Rattle.std.proofs.Common.{refl, sym, ◌∙◌, ltb, arith, ◌⊎◌, inl, inr, ap}
use Rattle.std.proofs.lemmas.Bool.{cases_Bool, ltb-true, ltb-false, false≢true}
use Rattle.std.proofs.lemmas.List.{get_or_past}
use Rattle.std.proofs.lemmas.List.Elements.{Contains-get_or}
use Rattle.html_render_dom_nodes.specs.Content.{document}
use Rattle.html_render_dom_nodes.specs.Elements.{contents_in}
use Rattle.html_render_dom_values.specs.Forest.{none, node}
use Rattle.html_render_dom.specs.Dom.{Dom, empty_dom, node_count, IsNode, IsElement, content_at, children_at, parent_at, IsForest}
use Rattle.html_render_dom_nodes.specs.Nodes.{lone, node_in}

pub below_or_not : (a b : ℕ) → (a < b) ⊎ (b ≤ a)
below_or_not a b = elim (cases_Bool (ltb a b)) [ inl e ↦ inl (ltb-true a b e) | inr e ↦ inr (ltb-false a b e) ]

-- past the last node there are no children and no parents
pub children_at-past : (dom : Dom) (h : ℕ) → node_count dom ≤ h → children_at dom h ≡ []
children_at-past dom h ge = ap (λ n. n.children) (get_or_past dom.nodes h (lone document) ge)

pub parent_at-past : (dom : Dom) (h : ℕ) → node_count dom ≤ h → parent_at dom h ≡ None
parent_at-past dom h ge = ap (λ n. n.parent) (get_or_past dom.nodes h (lone document) ge)

-- children are nodes
pub All-children : (dom : Dom) → IsForest dom → (h : ℕ) (xs : List ℕ) → xs ≡ children_at dom h → All (IsNode dom) xs
All-children dom f h xs e k d at = f.child_is_node h _ (rw (← e) (Contains-get_or xs k d at))

-- an element is a node
pub IsNode-element : (dom : Dom) (h : ℕ) → IsElement (content_at dom h) → IsNode dom h
IsNode-element dom h is =
    elim (below_or_not h (node_count dom)) [
      | inl lt ↦ lt
      | inr ge ↦ (let past : content_at dom h ≡ document = ap (λ n. n.content) (get_or_past dom.nodes h (lone document) ge) in
          let no : IsElement document = rw past at is in absurd (false≢true no))
    ]

-- a number with a child is a node
pub IsNode-above : (dom : Dom) (p c : ℕ) → Contains (children_at dom p) c → IsNode dom p
IsNode-above dom p c m =
    elim (below_or_not p (node_count dom)) [
      | inl lt ↦ lt
      | inr ge ↦ absurd (let m' = rw (children_at-past dom p ge) at m in let gone : m'.0 < 0 = m'.1 in omega arith)
    ]

-- a parent is a node, since its list has a child
pub IfSome-parent : (dom : Dom) → IsForest dom → (h : ℕ) (p : Option ℕ) → p ≡ parent_at dom h → IfSome p (IsNode dom)
IfSome-parent dom f h None e = tt
IfSome-parent dom f h (Some p) e = IsNode-above dom p h (f.parent_lists_child p h (sym e))

pub IsDistinct-nil : IsDistinct nat_eq []
unfolding IsDistinct
IsDistinct-nil = tt

-- a new document is a forest
only : (h : ℕ) → node_in empty_dom.nodes h ≡ lone document
only zero = refl
only (suc h) = refl

pub IsForest-empty : (dom : Dom) → dom ≡ empty_dom → IsForest dom
IsForest-empty dom e = rw e (record {
  has_document = omega arith;
  document_content = refl;
  child_is_node = λ p c m. absurd (alone p c m);
  child_names_parent = λ p c m. absurd (alone p c m);
  parent_lists_child = λ p c q. absurd (unnamed p c q);
  once = λ p. rw (only p) IsDistinct-nil;
  template_contents_is_node = λ h c q. absurd (no_contents h c q);
  finite = λ h at. (node document none none, (at, ap (λ n. n.content) (only h), rw (only h) tt, tt));
})
  where
    alone : (p c : ℕ) → Contains (children_at empty_dom p) c → ⊥
    alone p c m = let m' : Contains [] c = rw (only p) at m in let gone : m'.0 < 0 = m'.1 in omega arith

    no_contents : (h c : ℕ) → contents_in (content_at empty_dom h) ≡ Some c → ⊥
    no_contents h c q = let q' : None ≡ Some c = sym (ap (λ n. contents_in n.content) (only h)) ∙ q in cc

    unnamed : (p c : ℕ) → parent_at empty_dom c ≡ Some p → ⊥
    unnamed p c q = let q' : None ≡ Some p = sym (ap (λ n. n.parent) (only c)) ∙ q in cc
