use Rattle.std.proofs.Common.{ℕ, ◌<◌, ◌≢◌, slice_index}
use Rattle.std.specs.Option.{MatchOption}
use Rattle.html_render_parts_widths.specs.LevelForm.{IsLowered}
use Rattle.html_render_parts_widths.specs.CutSteps.{LoweredBefore}
use Rattle.html_render_parts_widths.proofs.check.last_lowered.Given as goal

-- `last` is the last lowered column among the first `i`, in the order of lowering; `None` if none is lowered
abbrev pub invariant-loop-i : goal.invariant-loop-i
invariant-loop-i l = MatchOption l.last
    ((k : ℕ) → k < l.i → ¬ IsLowered l.minimums l.shares l.widths l.level k)
    (λ b. (b < l.i) × IsLowered l.minimums l.shares l.widths l.level b
    × ((k : ℕ) → k < l.i → k ≢ b → IsLowered l.minimums l.shares l.widths l.level k →
    LoweredBefore (slice_index l.minimums k) k (slice_index l.minimums b) b))
