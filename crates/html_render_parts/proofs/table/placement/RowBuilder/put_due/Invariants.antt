use Rattle.std.proofs.Common.{◌≡◌, drop}
use Rattle.html_render_parts.specs.Placement.{not_due}
use Rattle.html_render_parts.specs.PlacementSteps.{with_due}
use Rattle.html_render_parts.proofs.table.placement.RowBuilder.put_due.Given as goal

abbrev pub invariant-loop-i : goal.invariant-loop-i
invariant-loop-i l =
    (with_due l.row (drop l.i l.hanging) l.self ≡ with_due l.row l.hanging l.initial.self) ×
    (not_due l.self.cursor (drop l.i l.hanging) ≡ not_due l.initial.self.cursor l.hanging)
