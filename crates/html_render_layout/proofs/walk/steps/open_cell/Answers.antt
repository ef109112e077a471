use Rattle.std.proofs.Common.{◌≡◌, ◌∙◌, Some, IfOk, IfErr, sym, subst}
use Rattle.html_render_dom_values.specs.Outcome.{Refuses}
use Rattle.html_render_layout_blocks.specs.Machine as machine
use Rattle.html_render_layout_nodes.specs.Visits.{way}
use Rattle.html_render_layout_nodes.specs.Preorder.{forest_of}
use Rattle.html_render_layout.specs.declared.state.Suspended.TheVariants.{Cell}
use Rattle.html_render_layout.specs.Layout.{within}
use Rattle.html_render_layout.specs.Opening.{cell_opened, opened_in}
use Rattle.html_render_layout.specs.Working.{by_tags}
use Rattle.html_render_layout.proofs.walk.steps.open_cell.Goals as goal

pub returns-clause-ok : goal.returns-clause-ok
returns-clause-ok g c =
    let m = by_tags g.D.TextDecorator.decoration g.G.Tagging.annotated in
    let s = c.args.state.now in
    let trees = forest_of c.args.children.now in
    let t = c.next_cell.new.state in
    let k = c.open_in.new.state in
    subst (λ q. IfOk c.open_in.result (λ x. cell_opened m c.args.node.now trees (machine.operations.cell_block s.block) q ≡ Some (way k x)))
    c.in_ok-next.ensures.same
    (subst (λ o. IfOk c.open_in.result (λ x. cell_opened m c.args.node.now trees o t ≡ Some (way k x))) (sym (sym c.in_ok-next.ensures.ok ∙ c.in-Some.is))
    (subst (λ u. IfOk c.open_in.result (λ x. opened_in m (Cell u) c.args.node.now trees (within m c.in-Some.cell t) ≡ Some (way k x)))
    c.in_ok-outer.ensures.outer
    (subst (λ q. IfOk c.open_in.result (λ x. opened_in m (Cell c.in_ok-outer.outer) c.args.node.now trees q ≡ Some (way k x)))
    c.in_ok-outer.ensures.ok c.open_in.ensures.ok)))

pub returns-clause-err : goal.returns-clause-err
returns-clause-err g c =
    let m = by_tags g.D.TextDecorator.decoration g.G.Tagging.annotated in
    let s = c.args.state.now in
    let trees = forest_of c.args.children.now in
    let t = c.next_cell.new.state in
    subst (λ q. IfErr c.open_in.result (λ e. Refuses e (cell_opened m c.args.node.now trees (machine.operations.cell_block s.block) q)))
    c.in_ok-next.ensures.same
    (subst (λ o. IfErr c.open_in.result (λ e. Refuses e (cell_opened m c.args.node.now trees o t))) (sym (sym c.in_ok-next.ensures.ok ∙ c.in-Some.is))
    (subst (λ u. IfErr c.open_in.result (λ e. Refuses e (opened_in m (Cell u) c.args.node.now trees (within m c.in-Some.cell t))))
    c.in_ok-outer.ensures.outer
    (subst (λ q. IfErr c.open_in.result (λ e. Refuses e (opened_in m (Cell c.in_ok-outer.outer) c.args.node.now trees q)))
    c.in_ok-outer.ensures.ok c.open_in.ensures.err)))
