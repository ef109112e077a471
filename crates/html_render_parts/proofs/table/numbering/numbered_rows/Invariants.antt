use Rattle.std.proofs.Common.{◌≡◌, map, take}
use Rattle.html_render_parts.specs.Grid.{numbered}
use Rattle.html_render_parts.specs.Placement.{lists}
use Rattle.html_render_parts.proofs.table.numbering.numbered_rows.Given as goal

abbrev pub invariant-loop-places : goal.invariant-loop-places
invariant-loop-places l = lists l.rows.items ≡ map (map (numbered l.edges)) (lists (take l.places-index l.placed))
