use Rattle.std.proofs.Common.{◌≤◌, take, All, Contains}
use Rattle.html_render_parts.specs.Placement.{end_of}
use Rattle.html_render_parts.proofs.table.placement.first_to_end.Given as goal

abbrev pub invariant-loop-cell : goal.invariant-loop-cell
invariant-loop-cell l = Contains l.hanging l.first × All (λ c. end_of l.first ≤ end_of c) (take l.cell-index l.hanging)
