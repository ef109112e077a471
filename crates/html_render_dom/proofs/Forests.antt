-- Calls that add nodes, texts and attributes leave a forest.
use Rattle.std.proofs.Common.{◌≡◌, ℕ, zero, suc, ◌<◌, ◌+◌, ◌-◌, List, [], ◌∷◌, ◌++◌, length, slice_set, Option, Some, None, IfSome, ◌⊎◌, inl, inr, refl, sym, ap, ◌∙◌, subst, arith, length-append}
use Rattle.std.proofs.lemmas.Bool.{cond_both}
use Rattle.std.proofs.lemmas.Bool.Decides.{eqb_tells}
use Rattle.std.proofs.lemmas.List.Sorted.{IsPermutation-sym, IsPermutation-to_front}
use Rattle.std.proofs.lemmas.Option.{same_Some}
use Rattle.std.proofs.lemmas.List.{length-set, get_or-append_right}
use Rattle.html_render_dom_nodes.specs.Content.{Content, Name, Property, document, text}
use Rattle.html_render_dom_nodes.specs.Elements.{completed, contents_in}
use Rattle.html_render_dom_nodes.specs.declared.flags.ElementFlags.{ElementFlags}
use Rattle.html_render_dom_nodes.specs.Nodes.{Node, lone, node_in}
use Rattle.html_render_dom.specs.Dom.{Dom, node_count, IsNode, content_at, children_at, parent_at, IsInclusiveAncestor, IsForest}
use Rattle.html_render_dom.specs.laws.Changes.{there, elsewhere, kept, older, SameShape, created-shape, above_no_older, rewritten}
use Rattle.html_render_dom.specs.laws.Forests.{below_or_not, parent_at-past}
use Rattle.html_render_dom_nodes.specs.Edits.{with_content, attached, attached_new, created, joined, element_created, text_put}
use Rattle.html_render_dom.specs.Edits.{IsFresh}
use Rattle.html_render_dom.proofs.Changed.{IsForest-put, IsForest-same_shape}

-- ---- each edit

pub document-created : (dom : Dom) (c : Content) → IsForest dom → content_at (record dom { nodes = created dom.nodes c }) 0 ≡ document
document-created dom c f = ap (λ n. n.content) (older dom.nodes c 0 f.has_document) ∙ f.document_content

-- template contents after a node is appended: those of an old node, or of the new one
created-contents : (nodes : List Node) (c : Content) (h k : ℕ) → contents_in (node_in (created nodes c) h).content ≡ Some k →
    (contents_in (node_in nodes h).content ≡ Some k) ⊎ (contents_in c ≡ Some k)
created-contents nodes c h k e =
    elim (below_or_not h (length nodes)) [
      | inl lt ↦ inl (sym (ap (λ n. contents_in n.content) (older nodes c h lt)) ∙ e)
      | inr ge ↦ inr (one (h - length nodes)
          (sym (ap (λ n. contents_in n.content) (get_or-append_right nodes (lone c ∷ []) (length nodes) h (lone document) refl ge)) ∙ e))
    ]
  where
    one : (i : ℕ) → contents_in (node_in (lone c ∷ []) i).content ≡ Some k → contents_in c ≡ Some k
    one zero q = q
    one (suc i) q = absurd (let none : None ≡ Some k = q in cc)

pub IsForest-created : (dom : Dom) (c : Content) → contents_in c ≡ None → IsForest dom → IsForest (record dom { nodes = created dom.nodes c })
IsForest-created dom c no_contents f =
    let shape = created-shape dom c in
    IsForest-same_shape shape (document-created dom c f) (λ h k e. elim (created-contents dom.nodes c h k e) [
      | inl o ↦ omega (arith, f.template_contents_is_node h k o, shape.grows)
      | inr n ↦ absurd (let none : None ≡ Some k = sym no_contents ∙ n in cc)
    ]) f

-- a new node with the next number has no parent, and no old node below it
pub IsFresh-next : {old new : Dom} → SameShape old new → IsForest old → node_count old < node_count new → IsFresh old new (node_count old)
IsFresh-next {old} {new} s f more = record {
  is_node = more;
  no_parent = s.parents (node_count old) ∙ parent_at-past old (node_count old) (omega arith);
  above_none = above_no_older f (λ h at. s.parents h);
}

-- a forest remains one if a node without a parent is appended to a list
pub IsForest-attached : (dom : Dom) → IsForest dom → (p c : ℕ) → IsNode dom p →
    IsNode dom c × (parent_at dom c ≡ None) × ¬ IsInclusiveAncestor dom c p → IsForest (record dom { nodes = attached dom.nodes p c })
IsForest-attached dom f p c at_p can =
    let cs = children_at dom p in
    IsForest-put f can.1 (rewritten dom p (cs ++ c ∷ []) c (Some p) at_p can.0)
    (IsPermutation-sym (cs ++ c ∷ []) (c ∷ cs) (IsPermutation-to_front cs c)) can.0 can.2

pub IsForest-with_content : (dom : Dom) → IsForest dom → (h : ℕ) (change : Content → Content) → change document ≡ document →
    ((c : Content) → contents_in (change c) ≡ contents_in c) → IsNode dom h →
    IsForest (record dom { nodes = with_content dom.nodes h (change (content_at dom h)) })
IsForest-with_content dom f h change keeps keeps_contents at =
    let n = record (node_in dom.nodes h) { content = change (content_at dom h) } in
    let shape : SameShape dom (record dom { nodes = slice_set dom.nodes h n }) = record {
      grows = omega (arith, length-set dom.nodes h n);
      children = kept (λ x. x.children) dom.nodes h n at refl;
      parents = kept (λ x. x.parent) dom.nodes h n at refl;
    } in
    let top : content_at (record dom { nodes = slice_set dom.nodes h n }) 0 ≡ document =
    elim (eqb_tells 0 h) [
      | inl s ↦ ap (λ k. (node_in (slice_set dom.nodes h n) k).content) s.1 ∙ there (λ x. x.content) dom.nodes h n at
          ∙ ap change (ap (content_at dom) (sym s.1) ∙ f.document_content) ∙ keeps
      | inr d ↦ elsewhere (λ x. x.content) dom.nodes h n 0 d.1 ∙ f.document_content
    ] in
    let contents : (k : ℕ) → contents_in (content_at (record dom { nodes = slice_set dom.nodes h n }) k) ≡ contents_in (content_at dom k) =
    kept (λ x. contents_in x.content) dom.nodes h n at (keeps_contents (content_at dom h)) in
    IsForest-same_shape shape top (λ k c q. omega (arith, f.template_contents_is_node k c (sym (contents k) ∙ q), shape.grows)) f

pub IsForest-attach_new : (dom : Dom) → IsForest dom → (p : ℕ) (c : Content) → contents_in c ≡ None → IsNode dom p →
    IsForest (record dom { nodes = attached_new dom.nodes c p })
IsForest-attach_new dom f p c no_contents at =
    let count = length-append dom.nodes (lone c ∷ []) in
    let fresh = IsFresh-next (created-shape dom c) f (omega (arith, count)) in
    IsForest-attached (record dom { nodes = created dom.nodes c }) (IsForest-created dom c no_contents f) p (node_count dom)
    (omega (arith, count, at)) (fresh.is_node, fresh.no_parent, fresh.above_none p at)

-- joining a text and adding attributes leave template contents unchanged
pub contents_in-joined : (c : Content) (more : List ℕ) → contents_in (joined c more) ≡ contents_in c
contents_in-joined document more = refl
contents_in-joined c more = refl

pub contents_in-completed : (c : Content) (given : List Property) → contents_in (completed c given) ≡ contents_in c
contents_in-completed document given = refl
contents_in-completed c given = refl

pub IsForest-put_text : (dom : Dom) → IsForest dom → (p : ℕ) → IsNode dom p → (before : Option ℕ) → IfSome before (IsNode dom) → (more : List ℕ) →
    IsForest (record dom { nodes = text_put dom.nodes p before more })
IsForest-put_text dom f p at None is more = IsForest-attach_new dom f p (text more) refl at
IsForest-put_text dom f p at (Some h) is more = IsForest-with_content dom f h (λ c. joined c more) refl (λ c. contents_in-joined c more) is

shape-trans : {a b c : Dom} → SameShape a b → SameShape b c → SameShape a c
shape-trans s t = record {
  grows = omega (arith, s.grows, t.grows);
  children = λ h. t.children h ∙ s.children h;
  parents = λ h. t.parents h ∙ s.parents h;
}

-- whether nodes are those of a document and at least one more, with old lists and parents unchanged, and are a forest
pub record Grown (dom : Dom) (nodes : List Node) : Type 0 where
  pub forest : IsForest (record dom { nodes = nodes })
  pub shape : SameShape dom (record dom { nodes = nodes })
  pub more : node_count dom < length nodes

grown-one : (dom : Dom) (c : Content) → contents_in c ≡ None → IsForest dom → Grown dom (created dom.nodes c)
grown-one dom c no_contents f = record {
  forest = IsForest-created dom c no_contents f;
  shape = created-shape dom c;
  more = omega (arith, length-append dom.nodes (lone c ∷ []));
}

-- a template and the next node, which is its contents
grown-two : (dom : Dom) (c : Content) → contents_in c ≡ Some (length dom.nodes + 1) → IsForest dom →
    Grown dom (created (created dom.nodes c) document)
grown-two dom c next f =
    let mid = record dom { nodes = created dom.nodes c } in
    let shape = shape-trans (created-shape dom c) (created-shape mid document) in
    let one = length-append dom.nodes (lone c ∷ []) in
    let two = length-append (created dom.nodes c) (lone document ∷ []) in
    let top = ap (λ n. n.content) (older (created dom.nodes c) document 0 (omega (arith, one)))
    ∙ document-created dom c f in
    record {
      forest = IsForest-same_shape shape top (λ h k e. elim (created-contents (created dom.nodes c) document h k e) [
        | inl o ↦ elim (created-contents dom.nodes c h k o) [
          | inl p ↦ omega (arith, f.template_contents_is_node h k p, shape.grows)
          | inr n ↦ (let is : length dom.nodes + 1 ≡ k = same_Some _ _ (sym next ∙ n) in omega (arith, is, one, two))
        ]
        | inr n ↦ absurd (let none : None ≡ Some k = n in cc)
      ]) f;
      shape = shape;
      more = omega (arith, one, two);
    }

pub grown-created : (dom : Dom) → IsForest dom → (c : Content) → contents_in c ≡ None → (nodes : List Node) → nodes ≡ created dom.nodes c → Grown dom nodes
grown-created dom f c no_contents nodes e = subst (Grown dom) (sym e) (grown-one dom c no_contents f)

pub grown-element : (dom : Dom) → IsForest dom → (name : Name) (properties : List Property) (flags : ElementFlags) (nodes : List Node) →
    nodes ≡ element_created dom.nodes name properties flags → Grown dom nodes
grown-element dom f name properties flags nodes e =
    subst (Grown dom) (sym e) (cond_both flags.template _ _ (Grown dom) (λ _. grown-two dom _ refl f) (λ _. grown-one dom _ refl f))

-- the first new node has no parent, and no old node below it
pub IsFresh-grown : (dom now : Dom) → dom ≡ now → IsForest dom → (nodes : List Node) → Grown dom nodes → (h : ℕ) → h ≡ node_count dom →
    IsFresh now (record dom { nodes = nodes }) h
IsFresh-grown dom now same f nodes g h next =
    subst (λ d. IsFresh d (record dom { nodes = nodes }) h) same
    (subst (IsFresh dom (record dom { nodes = nodes })) (sym next) (IsFresh-next g.shape f g.more))
