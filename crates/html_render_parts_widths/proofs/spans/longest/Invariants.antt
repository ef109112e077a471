use Rattle.std.proofs.Common.{ℕ, ◌<◌, ◌≤◌}
use Rattle.html_render_parts_widths.specs.SpanSteps.{span_at}
use Rattle.html_render_parts_widths.proofs.spans.longest.Given as goal

-- none of the first `at` spans has more columns than `longest`
abbrev pub invariant-loop-at : goal.invariant-loop-at
invariant-loop-at l = (k : ℕ) → k < l.at → (span_at l.spans k).count ≤ l.longest
