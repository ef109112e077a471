use Rattle.std.proofs.Common.{◌≡◌, map, take}
use Rattle.html_render_parts.specs.Grid.{numbered}
use Rattle.html_render_parts.proofs.table.numbering.put_numbered.Given as goal

abbrev pub invariant-loop-place : goal.invariant-loop-place
invariant-loop-place l = l.cells.items ≡ map (numbered l.edges) (take l.place-index l.places)
