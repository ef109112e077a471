use Rattle.std.proofs.Common.{◌≡◌, ◌⊎◌, ℕ, ℤ, List, Some, IfOk, IfErr, subst, sym, refl, inl, inr}
use Rattle.html_render_dom_values.specs.Forest.{Forest}
use Rattle.html_render_dom_values.specs.Outcome.{Refuses}
use Rattle.html_render_layout_nodes.specs.declared.tree.RenderNode.{RenderNode}
use Rattle.html_render_layout_nodes.specs.Visits.{way}
use Rattle.html_render_layout_nodes.specs.Preorder.{forest_of}
use Rattle.html_render_layout_blocks.specs.declared.held.Prefixing.{Prefixing}
use Rattle.html_render_layout.specs.declared.state.CloseAction.{CloseAction}
use Rattle.html_render_layout.specs.declared.state.CloseAction.TheVariants.{Bullets, Numbers}
use Rattle.html_render_layout.specs.Layout.{Algebra, State}
use Rattle.html_render_layout.specs.Opening.{child_block, block_opened, opened_below}
use Rattle.html_render_layout.specs.Working.{by_tags}
use Rattle.html_render_layout.proofs.walk.steps.open.Goals as goal

-- a child of a list is opened in its sub-block
listed : {S A K T B : Type 0} (m : Algebra S A K T B) (kind : CloseAction S T (Prefixing B T) B) (number : ℕ) (n : RenderNode) (trees : Forest RenderNode) (s : State m) →
    ((bullet : List ℕ) × (min_width : ℕ) × (kind ≡ Bullets bullet min_width))
    ⊎ ((first : ℤ) × (columns : ℕ) × (min_width : ℕ) × (kind ≡ Numbers first columns min_width)) →
    block_opened m n trees (child_block m s.decorator kind number) s ≡ opened_below m kind number n trees s
listed m kind number n trees s (inl b) =
    subst (λ k. block_opened m n trees (child_block m s.decorator k number) s ≡ opened_below m k number n trees s) (sym b.2) refl
listed m kind number n trees s (inr b) =
    subst (λ k. block_opened m n trees (child_block m s.decorator k number) s ≡ opened_below m k number n trees s) (sym b.3) refl

pub returns-in-Bullets-clause-ok : goal.returns-in-Bullets-clause-ok
returns-in-Bullets-clause-ok g c =
    rw c.in-Some.is
    (subst (λ o. IfOk c.open_listed.result (λ x. o ≡ Some (way c.open_listed.new.state x)))
    (listed (by_tags g.D.TextDecorator.decoration g.G.Tagging.annotated) c.in-Some.parent.now.kind c.args.number c.args.node.now
    (forest_of c.args.children.now) c.args.state.now c.in-Bullets.is)
    c.open_listed.ensures.ok)

pub returns-in-Bullets-clause-err : goal.returns-in-Bullets-clause-err
returns-in-Bullets-clause-err g c =
    rw c.in-Some.is
    (subst (λ o. IfErr c.open_listed.result (λ e. Refuses e o))
    (listed (by_tags g.D.TextDecorator.decoration g.G.Tagging.annotated) c.in-Some.parent.now.kind c.args.number c.args.node.now
    (forest_of c.args.children.now) c.args.state.now c.in-Bullets.is)
    c.open_listed.ensures.err)
