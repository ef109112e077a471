use Rattle.std.proofs.Common.{◌≡◌, drop}
use Rattle.html_render_parts.specs.PlacementSteps.{with_rest}
use Rattle.html_render_parts.proofs.table.placement.RowBuilder.put_rest.Given as goal

abbrev pub invariant-loop-cell : goal.invariant-loop-cell
invariant-loop-cell l = with_rest (drop l.cell-index l.hanging) l.self ≡ with_rest l.hanging l.initial.self
