use Rattle.std.proofs.Common.{ℕ, ◌<◌, ◌≢◌, slice_index, ◌≤◌}
use Rattle.std.specs.Option.{MatchOption}
use Rattle.html_render_parts_widths.specs.Cuts.{slack}
use Rattle.html_render_parts_widths.specs.CutSteps.{IsFull, LoweredBefore}
use Rattle.html_render_parts_widths.proofs.check.next_lowered.Given as goal

-- `next` is the first column at the level with its full width among the first `i`, in the order of lowering; `None` if there
-- is none
abbrev pub invariant-loop-i : goal.invariant-loop-i
invariant-loop-i l = MatchOption l.next
    ((k : ℕ) → k < l.i → l.level ≤ slack l.minimums l.shares k → ¬ IsFull l.minimums l.shares l.widths l.level k)
    (λ b. (b < l.i) × (l.level ≤ slack l.minimums l.shares b) × IsFull l.minimums l.shares l.widths l.level b
    × ((k : ℕ) → k < l.i → k ≢ b → l.level ≤ slack l.minimums l.shares k → IsFull l.minimums l.shares l.widths l.level k →
    LoweredBefore (slice_index l.minimums b) b (slice_index l.minimums k) k))
