use Rattle.std.proofs.Common.{◌≡◌, ◌*◌, ◌^◌, ◌≤◌, take, sum}
use Rattle.html_render_parts_widths.specs.Shares.{least_widths}
use Rattle.html_render_parts_widths.proofs.shares.stand_side_by_side.Given as goal

abbrev pub invariant-loop-need : goal.invariant-loop-need
invariant-loop-need l = (l.least ≡ sum (least_widths (take l.need-index l.needs))) × (l.least ≤ l.need-index * 2 ^ 64)
