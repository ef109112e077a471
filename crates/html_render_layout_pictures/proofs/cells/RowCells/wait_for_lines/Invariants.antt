use Rattle.std.proofs.Common.{◌≡◌, ◌++◌, take}
use Rattle.std.specs.List.{flat_map}
use Rattle.html_render_layout_pictures.proofs.CellLines.{own_waiting}
use Rattle.html_render_layout_pictures.proofs.cells.RowCells.wait_for_lines.Given as goal

abbrev pub invariant-loop-cell : goal.invariant-loop-cell
invariant-loop-cell g l = l.waiting.items ≡ l.initial.waiting.items ++ flat_map own_waiting (take l.cell-index l.cells)
