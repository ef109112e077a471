use Rattle.std.proofs.Common.{◌≡◌, take}
use Rattle.html_render_parts_widths.specs.Shares.{whole_widths}
use Rattle.html_render_parts_widths.proofs.shares.whole_widths.Given as goal

abbrev pub invariant-loop-need : goal.invariant-loop-need
invariant-loop-need l = l.all.items ≡ whole_widths (take l.need-index l.needs)
