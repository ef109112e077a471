-- Calls that move nodes leave a forest.
use Rattle.std.proofs.Common.{◌≡◌, ◌≢◌, ℕ, List, [], ◌∷◌, length, Option, Some, None, IfSome, Contains, eqb, ◌⊎◌, inl, inr, refl, sym, ◌∙◌, arith, length-append}
use Rattle.std.specs.List.{list_any}
use Rattle.std.proofs.lemmas.Bool.{cases_Bool, false≢true}
use Rattle.std.proofs.lemmas.Bool.Decides.{eqb_tells}
use Rattle.std.proofs.lemmas.Option.{same_Some}
use Rattle.std.proofs.lemmas.List.Elements.{Contains-append_left, Contains-append_right, Contains-append_cases}
use Rattle.html_render_dom_nodes.specs.Content.{Content, text}
use Rattle.html_render_dom_nodes.specs.Elements.{contents_in}
use Rattle.html_render_dom_nodes.specs.Nodes.{Node, lone}
use Rattle.html_render_dom.specs.Dom.{Dom, node_count, IsNode, children_at, parent_at, IsInclusiveAncestor, itself, above, IsForest}
use Rattle.html_render_dom.specs.laws.Changes.{created-shape, Rewrites, rewritten, Reparents, reparented-facts}
use Rattle.html_render_dom.specs.laws.Forests.{IsDistinct-nil, IsNode-above}
use Rattle.html_render_dom_nodes.specs.Edits.{created, joined}
use Rattle.html_render_dom_nodes.specs.Moves.{without, taken_out, inserted_before, text_placed, reparented}
use Rattle.html_render_dom.specs.laws.Members.{Contains-nil, Contains-from_any, any-from_Contains}
use Rattle.html_render_dom.proofs.Changed.{descend, Moves, IsForest-same_contents, IsForest-taken, IsForest-put}
use Rattle.html_render_dom.proofs.Lists.{Contains-from_without, Contains-without, IsDistinct-without, IsPermutation-before, IsDistinct-append}
use Rattle.html_render_dom.proofs.Forests.{IsForest-created, IsFresh-next, IsForest-with_content, contents_in-joined}

-- ---- each move

-- a parent and its child are nodes, since the parent's list has the child
pub IsNode-named : (dom : Dom) → IsForest dom → (p c : ℕ) → parent_at dom c ≡ Some p → IsNode dom p × IsNode dom c
IsNode-named dom f p c e =
    let l = f.parent_lists_child p c e in
    (IsNode-above dom p c l, f.child_is_node p c l)

taken_facts : (dom : Dom) → IsForest dom → (p c : ℕ) → parent_at dom c ≡ Some p →
    Rewrites dom (record dom { nodes = taken_out dom.nodes (Some p) c }) p (without c (children_at dom p)) c None
taken_facts dom f p c e = let at = IsNode-named dom f p c e in rewritten dom p _ c None at.0 at.1

-- a forest remains one if a child is removed from its list
pub IsForest-out : (dom : Dom) → IsForest dom → (p c : ℕ) → parent_at dom c ≡ Some p → IsForest (record dom { nodes = taken_out dom.nodes (Some p) c })
IsForest-out dom f p c named = IsForest-taken f (taken_facts dom f p c named) (record {
  from = λ x l. inl (Contains-from_without c (children_at dom p) x l);
  still = Contains-without c (children_at dom p);
  comes = λ r e. absurd (cc);
  nowhere_else = λ r other l. other (same_Some r p (sym (f.child_names_parent r c l) ∙ named));
  once = IsDistinct-without c (children_at dom p) (f.once p);
})

-- an inclusive ancestor in the document with c removed from its list is one in the old document
ancestor_before : {old new : Dom} {c : ℕ} → parent_at new c ≡ None → ((h : ℕ) → h ≢ c → parent_at new h ≡ parent_at old h) → {a h : ℕ} →
    IsInclusiveAncestor new a h → IsInclusiveAncestor old a h
ancestor_before {old} {new} {c} lone_c others itself = itself
ancestor_before {old} {new} {c} lone_c others {a} {h} (above p e r) =
    elim (eqb_tells h c) [
      | inl s ↦ absurd (let gone : parent_at new h ≡ None = rw s.1 lone_c in cc)
      | inr d ↦ above p (sym (others h d.1) ∙ e) (ancestor_before lone_c others r)
    ]

-- whether nodes are a forest with those of a document, where c has no parent and all others have their old one
record Freed (dom : Dom) (c : ℕ) (nodes : List Node) : Type 0 where
  forest : IsForest (record dom { nodes = nodes })
  count : length nodes ≡ node_count dom
  lone_c : parent_at (record dom { nodes = nodes }) c ≡ None
  others : (h : ℕ) → h ≢ c → parent_at (record dom { nodes = nodes }) h ≡ parent_at dom h

freed : (dom : Dom) → IsForest dom → (c : ℕ) (from : Option ℕ) → from ≡ parent_at dom c → Freed dom c (taken_out dom.nodes from c)
freed dom f c None e = record { forest = f; count = refl; lone_c = sym e; others = λ h d. refl }
freed dom f c (Some p) e =
    let a = taken_facts dom f p c (sym e) in
    record { forest = IsForest-out dom f p c (sym e); count = a.count; lone_c = a.parent_there; others = a.parents_elsewhere }

pub IsForest-placed : (dom : Dom) → IsForest dom → (p s c : ℕ) → parent_at dom s ≡ Some p → IsNode dom c → parent_at dom c ≡ None →
    (IsInclusiveAncestor dom c p → ⊥) → IsForest (record dom { nodes = inserted_before dom.nodes p s c })
IsForest-placed dom f p s c named at_c lone_c away =
    IsForest-put f lone_c (rewritten dom p _ c (Some p) (IsNode-named dom f p s named).0 at_c)
    (IsPermutation-before s c (children_at dom p) (f.parent_lists_child p s named)) at_c away

pub IsForest-move_before : (dom : Dom) → IsForest dom → (p s c : ℕ) → parent_at dom s ≡ Some p → IsNode dom c × ¬ IsInclusiveAncestor dom c s →
    (from : Option ℕ) → from ≡ parent_at dom c → IsForest (record dom { nodes = inserted_before (taken_out dom.nodes from c) p s c })
IsForest-move_before dom f p s c named can from is_from =
    let g = freed dom f c from is_from in
    let mid = record dom { nodes = taken_out dom.nodes from c } in
    let other : s ≢ c = λ q. can.1 (rw q itself) in
    let in_p : parent_at mid s ≡ Some p = g.others s other ∙ named in
    let at : IsNode mid c = omega (arith, g.count, can.0) in
    let out : IsInclusiveAncestor mid c p → ⊥ = λ up. can.1 (above p named (ancestor_before g.lone_c g.others up)) in
    IsForest-placed mid g.forest p s c in_p at g.lone_c out

IsForest-place_new : (dom : Dom) → IsForest dom → (p s : ℕ) → parent_at dom s ≡ Some p → (c : Content) → contents_in c ≡ None →
    IsForest (record dom { nodes = inserted_before (created dom.nodes c) p s (length dom.nodes) })
IsForest-place_new dom f p s named c no_contents =
    let mid = record dom { nodes = created dom.nodes c } in
    let shape = created-shape dom c in
    let fresh = IsFresh-next shape f (omega (arith, length-append dom.nodes (lone c ∷ []))) in
    let at = IsNode-named dom f p s named in
    IsForest-placed mid (IsForest-created dom c no_contents f) p s (node_count dom) (shape.parents s ∙ named) fresh.is_node fresh.no_parent
    (fresh.above_none p at.0)

pub IsForest-text_placed : (dom : Dom) → IsForest dom → (p s : ℕ) → parent_at dom s ≡ Some p → (last : Option ℕ) → IfSome last (IsNode dom) →
    (more : List ℕ) → IsForest (record dom { nodes = text_placed dom.nodes p s last more })
IsForest-text_placed dom f p s named None is more = IsForest-place_new dom f p s named (text more) refl
IsForest-text_placed dom f p s named (Some h) is more = IsForest-with_content dom f h (λ c. joined c more) refl (λ c. contents_in-joined c more) is

-- ---- moving all children to another parent

listed_or_not : (cs : List ℕ) (h : ℕ) → Contains cs h ⊎ (Contains cs h → ⊥)
listed_or_not cs h =
    elim (cases_Bool (list_any (eqb h) cs)) [
      | inl t ↦ inl (Contains-from_any cs h t)
      | inr n ↦ inr (λ l. false≢true (sym n ∙ any-from_Contains cs h l))
    ]

module _ {old new : Dom} {u v : ℕ} (f : IsForest old) (apart : u ≢ v) (a : Reparents old new u v) where
  -- a child of a node other than u isn't a child of u
  not_moved : (q x : ℕ) → q ≢ u → Contains (children_at old q) x → Contains (children_at old u) x → ⊥
  not_moved q x other l m = other (same_Some q u (sym (f.child_names_parent q x l) ∙ f.child_names_parent u x m))

  joined-listed : (q x : ℕ) → Contains (children_at new q) x → ((q ≢ u) × Contains (children_at old q) x) ⊎ ((q ≡ v) × Contains (children_at old u) x)
  joined-listed q x l =
      elim (eqb_tells q u) [
        | inl e ↦ absurd (Contains-nil x (rw (e.1, a.list_from) at l))
        | inr d ↦ elim (eqb_tells q v) [
          | inl e ↦ elim (Contains-append_cases (children_at old v) (children_at old u) x (rw (e.1, a.list_to) at l)) [
            | inl o ↦ inl (d.1, rw e.1 o)
            | inr n ↦ inr (e.1, n)
          ]
          | inr n ↦ inl (d.1, rw (a.lists_elsewhere q d.1 n.1) at l)
        ]
      ]

  joined-lists : (q x : ℕ) → parent_at new x ≡ Some q → Contains (children_at new q) x
  joined-lists q x e =
      elim (listed_or_not (children_at old u) x) [
        | inl m ↦ (let q_is : v ≡ q = same_Some v q (sym (a.named x m) ∙ e) in
            rw (← q_is, a.list_to) (Contains-append_right (children_at old v) (children_at old u) x m))
        | inr out ↦ (let o = f.parent_lists_child q x (sym (a.parents_elsewhere x out) ∙ e) in
            elim (eqb_tells q u) [
              | inl s ↦ absurd (out (rw s.1 at o))
              | inr d ↦ elim (eqb_tells q v) [
                | inl s ↦ rw (s.1, a.list_to) (Contains-append_left (children_at old v) (children_at old u) x (rw s.1 at o))
                | inr n ↦ rw (a.lists_elsewhere q d.1 n.1) o
              ]
            ])
      ]

  Moves-reparented : Moves old new v (children_at old u)
  Moves-reparented = record {
    grows = omega (arith, a.count);
    listed = λ q x l. elim (joined-listed q x l) [ inl o ↦ inl o.1 | inr n ↦ inr n ];
    names = λ q x l. elim (joined-listed q x l) [
      | inl o ↦ a.parents_elsewhere x (not_moved q x o.0 o.1) ∙ f.child_names_parent q x o.1
      | inr n ↦ rw n.0 (a.named x n.1)
    ];
    lists = joined-lists;
    once = λ q. elim (eqb_tells q u) [
      | inl s ↦ rw (s.1, a.list_from) IsDistinct-nil
      | inr d ↦ elim (eqb_tells q v) [
        | inl s ↦ rw (s.1, a.list_to)
            (IsDistinct-append (children_at old v) (children_at old u) (f.once v) (f.once u)
            (λ x l m. not_moved v x (λ e. apart (sym e)) l m))
        | inr n ↦ rw (a.lists_elsewhere q d.1 n.1) (f.once q)
      ]
    ];
  }

pub IsForest-reparented : (dom : Dom) → IsForest dom → (u v : ℕ) → IsNode dom u → IsNode dom v → ¬ IsInclusiveAncestor dom u v →
    IsForest (record dom { nodes = reparented dom.nodes u v })
IsForest-reparented dom f u v at_u at_v out =
    let apart : u ≢ v = λ q. out (rw q itself) in
    let a = reparented-facts dom u v at_u at_v apart (f.child_is_node u) in
    IsForest-same_contents (Moves-reparented f apart a) f (f.child_is_node u)
    (λ c l up. out (descend dom u c (f.child_names_parent u c l) up)) a.contents
