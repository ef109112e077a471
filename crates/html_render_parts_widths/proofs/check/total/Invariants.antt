use Rattle.std.proofs.Common.{◌≡◌, ◌*◌, ◌^◌, ◌≤◌, sum, take}
use Rattle.html_render_parts_widths.proofs.check.total.Given as goal

abbrev pub invariant-loop-width : goal.invariant-loop-width
invariant-loop-width l = (l.all ≡ sum (take l.width-index l.widths)) × (l.all ≤ l.width-index * 2 ^ 64)
