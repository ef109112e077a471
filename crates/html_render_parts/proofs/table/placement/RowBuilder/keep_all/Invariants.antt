use Rattle.std.proofs.Common.{◌≡◌, take}
use Rattle.html_render_parts.specs.PlacementSteps.{keeping}
use Rattle.html_render_parts.proofs.table.placement.RowBuilder.keep_all.Given as goal

abbrev pub invariant-loop-cell : goal.invariant-loop-cell
invariant-loop-cell l = l.self ≡ keeping l.row (take l.cell-index l.cells) l.initial.self
