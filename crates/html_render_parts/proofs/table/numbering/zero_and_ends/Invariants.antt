use Rattle.std.proofs.Common.{◌≡◌, ◌∷◌, ◌++◌, drop}
use Rattle.html_render_parts.specs.Positions.{ends}
use Rattle.html_render_parts.specs.Placement.{lists}
use Rattle.html_render_parts.proofs.table.numbering.zero_and_ends.Given as goal

abbrev pub invariant-loop-places : goal.invariant-loop-places
invariant-loop-places l = l.positions.items ++ ends (lists (drop l.places-index l.placed)) ≡ 0 ∷ ends (lists l.placed)
