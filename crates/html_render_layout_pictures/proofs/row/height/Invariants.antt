use Rattle.std.proofs.Common.{◌≡◌, fold, max, take}
use Rattle.html_render_layout_pictures.specs.declared.cells.RowCell.{RowCell}
use Rattle.html_render_layout_pictures.proofs.row.height.Given as goal

abbrev pub invariant-loop-cell : goal.invariant-loop-cell
invariant-loop-cell g l = l.height ≡ fold (λ h (c : RowCell g.row.M.Denot). max h c.count) 1 (take l.cell-index l.cells)
