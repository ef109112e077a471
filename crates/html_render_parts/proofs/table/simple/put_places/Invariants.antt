use Rattle.std.proofs.Common.{◌≡◌, map, take}
use Rattle.html_render_parts.specs.SimpleRows.{place_on}
use Rattle.html_render_parts.proofs.table.simple.put_places.Given as goal

abbrev pub invariant-loop-cell : goal.invariant-loop-cell
invariant-loop-cell l = l.places.items ≡ map (place_on l.edges) (take l.cell-index l.cells)
