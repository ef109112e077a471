use Rattle.std.proofs.Common.{◌≡◌, ℕ, ◌-◌, ◌≤◌, ◌<◌, length}
use Rattle.std.specs.Prelude.{slice_index}
use Rattle.html_render_parts_widths.specs.SpanSteps.{split_at}
use Rattle.html_render_parts_widths.proofs.spans.split.Given as goal

-- the values from `at` on are split, and those before it are unchanged
abbrev pub invariant-loop-at : goal.invariant-loop-at
invariant-loop-at l = record {
  len : length l.values.items ≡ length l.initial.values.items;
  inside : l.at ≤ length l.initial.values.items;
  done : (k : ℕ) → l.at ≤ k → k < length l.initial.values.items → slice_index l.values.items k ≡ split_at l.offset l.initial.values.items k;
  left : (k : ℕ) → k < l.at → slice_index l.values.items k ≡ slice_index l.initial.values.items k;
}

abbrev pub decreases-loop-at : goal.decreases-loop-at
decreases-loop-at l = l.at - l.offset
