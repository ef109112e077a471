use Rattle.std.proofs.Common.{◌-◌, length}
use Rattle.html_render_layout_estimates.proofs.Shapes.{Words}
use Rattle.html_render_layout_estimates.proofs.words.ascii_start.Given as goal

abbrev pub invariant-loop-at : goal.invariant-loop-at
invariant-loop-at l = Words l.text l.first l.longest l.last l.at

abbrev pub decreases-loop-at : goal.decreases-loop-at
decreases-loop-at l = length l.text - l.at
