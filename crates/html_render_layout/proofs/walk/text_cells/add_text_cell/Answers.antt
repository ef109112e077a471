use Rattle.std.proofs.Common.{Some, ap, sym, ◌∙◌}
use Rattle.std.specs.Prelude.{option_copied}
use Rattle.std.proofs.lemmas.Result.{err_from_is_err_and}
use Rattle.html_render_layout_nodes.specs.Preorder.{forest_of}
use Rattle.html_render_layout.proofs.TextCells.{text_pair, pair_refused}
use Rattle.html_render_layout.proofs.walk.text_cells.add_text_cell.Goals as goal

pub returns-clause-ok : goal.returns-clause-ok
returns-clause-ok g c =
    text_pair g.D.TextDecorator.decoration g.G.Tagging.annotated (option_copied c.args.parent) c.requires.row c.args.number c.args.node.now
    (forest_of c.args.children.now) c.args.text.now c.args.state.now c.requires.is c.requires.ordinary c.in-Some.cell
    (sym c.in_ok-next.ensures.ok ∙ c.in-Some.is)
    ∙ ap (λ o. Some o) (rw c.in_ok-next.ensures.same at c.in_ok-put_text_cell.ensures.ok)

pub returns-in_err-put_text_cell-clause-err : goal.returns-in_err-put_text_cell-clause-err
returns-in_err-put_text_cell-clause-err g c =
    let p = err_from_is_err_and c.from_residual-in_err-put_text_cell.result c.from_residual-in_err-put_text_cell.ensures.1 in
    rw (p.1, p.2)
    (pair_refused g.D.TextDecorator.decoration g.G.Tagging.annotated (option_copied c.args.parent) c.requires.row c.args.number c.args.node.now
    (forest_of c.args.children.now) c.args.text.now c.args.state.now c.requires.is c.requires.ordinary c.in-Some.cell
    (sym c.in_ok-next.ensures.ok ∙ c.in-Some.is) _
    (rw c.in_ok-next.ensures.same at c.in_err-put_text_cell.ensures.err))
