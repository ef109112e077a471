use Rattle.std.proofs.Common.{◌≡◌, ◌*◌, ◌^◌, ◌≤◌, sum_by, take}
use Rattle.html_render_parts_widths.proofs.shares.total_size.Given as goal

abbrev pub invariant-loop-need : goal.invariant-loop-need
invariant-loop-need l = (l.total ≡ sum_by (λ n. n.preferred_width) (take l.need-index l.needs)) × (l.total ≤ l.need-index * 2 ^ 64)
