use Rattle.std.proofs.Common.{◌-◌, length}
use Rattle.html_render_layout_estimates.proofs.Sizes.{Sized}
use Rattle.html_render_layout_estimates.proofs.text.size_by_bytes.Given as goal

abbrev pub invariant-loop-columns : goal.invariant-loop-columns
invariant-loop-columns l = Sized l.text l.at l.columns l.spaced

abbrev pub decreases-loop-columns : goal.decreases-loop-columns
decreases-loop-columns l = length l.text - l.at
