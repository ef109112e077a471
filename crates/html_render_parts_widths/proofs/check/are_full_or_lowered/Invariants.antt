use Rattle.std.proofs.Common.{ℕ, ◌<◌, ◌⊎◌}
use Rattle.html_render_parts_widths.specs.LevelForm.{IsLowered}
use Rattle.html_render_parts_widths.specs.CutSteps.{IsFull}
use Rattle.html_render_parts_widths.proofs.check.are_full_or_lowered.Given as goal

abbrev pub invariant-loop-i : goal.invariant-loop-i
invariant-loop-i l = (k : ℕ) → k < l.i → IsFull l.minimums l.shares l.widths l.level k ⊎ IsLowered l.minimums l.shares l.widths l.level k
