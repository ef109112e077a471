use Rattle.std.proofs.Common.{◌≡◌, ℕ, ◌+◌, ◌-◌, ◌<◌, ◌≤◌, sum, take, slice_index}
use Rattle.html_render_parts_widths.proofs.fit.cut_fits.Given as goal

abbrev pub invariant-loop-i : goal.invariant-loop-i
invariant-loop-i l = (l.room + sum (take l.i l.minimums) + (l.i - 1) ≡ l.width) ×
    ((k : ℕ) → k < l.i → slice_index l.minimums k ≤ slice_index l.shares k)
