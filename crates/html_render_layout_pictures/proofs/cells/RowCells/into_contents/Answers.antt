use Rattle.std.proofs.Common.{length, ap, ◌∙◌, sym}
use Rattle.html_render_layout_pictures.specs.declared.cells.RowContents.{RowContents}
use Rattle.html_render_layout_pictures.specs.RowCells.{cells_of, line_total}
use Rattle.html_render_layout_pictures.proofs.cells.RowCells.into_contents.Goals as goal

pub returns-clause-cells : goal.returns-clause-cells
returns-clause-cells g c =
    ap (λ (r : RowContents g.row.T.Denot g.row.M.Denot). cells_of r.cells.items r.lines) c.into_inner.ensures ∙ c.self.view_is

pub returns-clause-lines : goal.returns-clause-lines
returns-clause-lines g c =
    ap (λ (r : RowContents g.row.T.Denot g.row.M.Denot). line_total r.cells.items) c.into_inner.ensures
    ∙ c.self.invariant
    ∙ sym (ap (λ (r : RowContents g.row.T.Denot g.row.M.Denot). length r.lines) c.into_inner.ensures)
