use Rattle.std.proofs.Common.{◌≡◌, map, take}
use Rattle.html_render_parts.specs.TableCells.{span_on}
use Rattle.html_render_parts.proofs.table.cells.put_spans.Given as goal

abbrev pub invariant-loop-cell : goal.invariant-loop-cell
invariant-loop-cell l = l.spans.items ≡ map (span_on l.edges) (take l.cell-index l.cells)
