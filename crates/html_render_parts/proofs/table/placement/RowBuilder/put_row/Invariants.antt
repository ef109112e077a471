use Rattle.std.proofs.Common.{◌≡◌, drop}
use Rattle.html_render_parts.specs.PlacementSteps.{with_row}
use Rattle.html_render_parts.proofs.table.placement.RowBuilder.put_row.Given as goal

abbrev pub invariant-loop-span : goal.invariant-loop-span
invariant-loop-span l = with_row l.row (drop l.span-index l.cells) l.rest l.self ≡ with_row l.row l.cells l.initial.rest l.initial.self
