use Rattle.std.proofs.Common.{◌≡◌, map, take}
use Rattle.html_render_layout_pictures.specs.declared.cells.RowCell.{RowCell}
use Rattle.html_render_layout_pictures.proofs.cells.RowCells.put_widths.Given as goal

abbrev pub invariant-loop-cell : goal.invariant-loop-cell
invariant-loop-cell g l = l.widths.items ≡ map (λ (c : RowCell g.row.M.Denot). c.width) (take l.cell-index l.cells)
