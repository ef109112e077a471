use Rattle.std.proofs.Common.{◌≡◌, ◌+◌, ◌*◌, ◌^◌, ◌≤◌, drop}
use Rattle.html_render_parts_widths.specs.LevelForm.{capped_sum, ranges}
use Rattle.html_render_parts_widths.proofs.levels.capped_sum.Given as goal

-- The sums over the first `i` columns and over the other columns add up to that over all columns. The first is at most `i`
-- times 2^64.
abbrev pub invariant-loop-i : goal.invariant-loop-i
invariant-loop-i l = (l.all + capped_sum l.level (ranges (drop l.i l.minimums) (drop l.i l.shares))
    ≡ capped_sum l.level (ranges l.minimums l.shares)) × (l.all ≤ l.i * 2 ^ 64)
