use Rattle.std.proofs.Common.{◌≡◌, ℕ, ◌<◌, length, slice_index}
use Rattle.html_render_parts_widths.specs.LevelForm.{full_width}
use Rattle.html_render_parts_widths.proofs.cut.full_widths.Given as goal

abbrev pub invariant-loop-i : goal.invariant-loop-i
invariant-loop-i l = (length l.widths.items ≡ l.i) ×
    ((k : ℕ) → k < l.i → slice_index l.widths.items k ≡ full_width l.minimums l.shares l.level k)
