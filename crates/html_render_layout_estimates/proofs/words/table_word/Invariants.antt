use Rattle.std.proofs.Common.{◌≡◌, ◌+◌, ◌-◌, length, sum, take}
use Rattle.html_render_parts_widths.specs.Shares.{whole_widths}
use Rattle.html_render_layout_estimates.specs.TextSize.{saturated}
use Rattle.html_render_layout_estimates.proofs.words.table_word.Given as goal

abbrev pub invariant-loop-need : goal.invariant-loop-need
invariant-loop-need l = l.columns ≡ saturated (sum (whole_widths (take l.need-index l.needs)) + (length l.needs - 1))
