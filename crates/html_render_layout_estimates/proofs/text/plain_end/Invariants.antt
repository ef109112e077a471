use Rattle.std.proofs.Common.{◌-◌, ◌≤◌, length}
use Rattle.html_render_layout_estimates.specs.TextSize.{IsPlainBetween}
use Rattle.html_render_layout_estimates.proofs.text.plain_end.Given as goal

abbrev pub invariant-loop-at : goal.invariant-loop-at
invariant-loop-at l = (l.start ≤ l.at) × (l.at ≤ length l.text) × IsPlainBetween l.text l.start l.at

abbrev pub decreases-loop-at : goal.decreases-loop-at
decreases-loop-at l = length l.text - l.at
