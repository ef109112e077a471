use Rattle.std.proofs.Common.{◌≤◌, map, length, sym, ap, ◌∙◌, arith}
use Rattle.std.proofs.lemmas.List.{take_all}
use Rattle.html_render_layout_pictures.specs.declared.cells.RowCell.{RowCell}
use Rattle.html_render_layout_pictures.specs.Picture as definition
use Rattle.html_render_layout_pictures.specs.RowCells.{cells_of}
use Rattle.html_render_layout_pictures.specs.Separators.{separators_between}
use Rattle.html_render_layout_pictures.proofs.CellLines.{cells-widths}
use Rattle.html_render_layout_pictures.proofs.Separators.{separators_widths}
use Rattle.html_render_layout_pictures.proofs.cells.RowCells.put_widths.Goals as goal

pub returns : goal.returns
returns g c =
    let cells = c.self.inside.held.value.cells.items in
    let ls = c.self.inside.held.value.lines in
    let passed : length c.as_slice-cells.result.now ≤ c.loop-cell.cell-index = omega (arith, c.loop-cell-test.false) in
    ap separators_between
    (c.loop-cell.invariant
    ∙ ap (λ ds. map (λ (d : RowCell g.row.M.Denot). d.width) ds) (take_all c.loop-cell.cell-index c.as_slice-cells.result.now passed ∙ rw c.deref.ensures at c.as_slice-cells.ensures.value)
    ∙ sym (cells-widths cells ls))
    ∙ separators_widths (cells_of cells ls) ∙ ap (λ ds. definition.separators_of ds) c.self.view_is
