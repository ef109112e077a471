use Rattle.std.proofs.Common.{◌≡◌, ℕ, List, Option, true, Some, None, refl, sym, subst, ◌∙◌}
use Rattle.std.proofs.lemmas.Result.{err_from_is_err_and}
use Rattle.std.specs.Option.{option_map_or, option_copied}
use Rattle.html_render_dom_values.specs.Forest.{Forest}
use Rattle.html_render_dom_values.specs.Outcome.{Refuses}
use Rattle.html_render_layout_blocks.specs.declared.held.Prefixing.{Prefixing}
use Rattle.html_render_layout_nodes.specs.declared.tree.NodeKind.TheVariants.{Text}
use Rattle.html_render_layout_nodes.specs.declared.tree.RenderNode.{RenderNode}
use Rattle.html_render_layout_nodes.specs.Preorder.{forest_of}
use Rattle.html_render_layout.specs.declared.state.CloseAction.{CloseAction}
use Rattle.html_render_layout.specs.declared.state.CloseAction.TheVariants.{Bullets, Numbers, EndRow}
use Rattle.html_render_layout.specs.declared.state.OpenNode.{OpenNode}
use Rattle.html_render_layout.specs.declared.state.Suspended.TheVariants.{NoBlock}
use Rattle.html_render_layout.specs.Layout.{Algebra, State}
use Rattle.html_render_layout.specs.Opening.{children_share, opened_in, text_opened, opened_below, opened}
use Rattle.html_render_layout.specs.Working.{by_tags}
use Rattle.html_render_layout.specs.laws.Opening.{texts_pass}
use Rattle.html_render_layout.proofs.walk.steps.visit_text.Goals as goal

module _ {S A K T B : Type 0} (m : Algebra S A K T B) (number : ℕ) (n : RenderNode) (trees : Forest RenderNode) (s : State m) where
  below : (kind : CloseAction S T (Prefixing B T) B) → children_share kind ≡ true → opened_below m kind number n trees s ≡ opened_in m NoBlock n trees s
  below EndRow h = absurd cc
  below (Bullets bullet min_width) h = absurd cc
  below (Numbers first columns min_width) h = absurd cc
  below kind h = refl

  shared : (parent : Option (OpenNode S T (Prefixing B T) B)) → option_map_or (λ c. children_share c.kind) parent true ≡ true →
      opened m parent number n trees s ≡ opened_in m NoBlock n trees s
  shared None h = refl
  shared (Some c) h = below c.kind h

  -- a text whose siblings share a block is opened as such
  text : (parent : Option (OpenNode S T (Prefixing B T) B)) → option_map_or (λ c. children_share c.kind) parent true ≡ true →
      (t : List ℕ) → n.kind ≡ Text t → opened m parent number n trees s ≡ text_opened m t n.style s
  text parent h t is = shared parent h ∙ texts_pass m n t trees s is

pub returns-clause-ok : goal.returns-clause-ok
returns-clause-ok g c =
    let together : option_map_or (λ (c : OpenNode _ _ _ _). children_share c.kind) (option_copied c.args.parent) true ≡ true = sym c.children_share.ensures ∙ c.if-not-children_share.false in
    text (by_tags g.D.TextDecorator.decoration g.G.Tagging.annotated) c.args.number c.args.node.now (forest_of c.args.children.now) c.args.state.now
    (option_copied c.args.parent) together c.in-Text.text c.in-Text.is
    ∙ (rw c.as_str.ensures at c.in_ok-add_node_text.ensures.ok)

pub returns-in_err-add_node_text-clause-err : goal.returns-in_err-add_node_text-clause-err
returns-in_err-add_node_text-clause-err g c =
    let p = err_from_is_err_and c.from_residual.result c.from_residual.ensures.1 in
    let together : option_map_or (λ (c : OpenNode _ _ _ _). children_share c.kind) (option_copied c.args.parent) true ≡ true = sym c.children_share.ensures ∙ c.if-not-children_share.false in
    rw (p.1, p.2)
    (subst (λ o. Refuses c.in_err-add_node_text.field-0.0 o)
    (sym (text (by_tags g.D.TextDecorator.decoration g.G.Tagging.annotated) c.args.number c.args.node.now (forest_of c.args.children.now) c.args.state.now
    (option_copied c.args.parent) together c.in-Text.text c.in-Text.is))
    (rw c.as_str.ensures at c.in_err-add_node_text.ensures.err))
