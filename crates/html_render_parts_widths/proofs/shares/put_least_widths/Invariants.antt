use Rattle.std.proofs.Common.{◌≡◌, take}
use Rattle.html_render_parts_widths.specs.Shares.{least_widths}
use Rattle.html_render_parts_widths.proofs.shares.put_least_widths.Given as goal

abbrev pub invariant-loop-need : goal.invariant-loop-need
invariant-loop-need l = l.all.items ≡ least_widths (take l.need-index l.needs)
