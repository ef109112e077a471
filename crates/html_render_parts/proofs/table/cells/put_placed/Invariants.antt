use Rattle.std.proofs.Common.{◌≡◌, map, take}
use Rattle.html_render_parts.specs.OwnCells.{on_columns}
use Rattle.html_render_parts.proofs.table.cells.put_placed.Given as goal

abbrev pub invariant-loop-cell : goal.invariant-loop-cell
invariant-loop-cell l = l.row.items ≡ map (on_columns l.edges) (take l.cell-index l.cells)
