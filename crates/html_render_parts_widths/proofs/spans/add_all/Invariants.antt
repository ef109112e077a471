use Rattle.std.proofs.Common.{length}
use Rattle.html_render_parts_widths.specs.SpanSteps.{IsSpread}
use Rattle.html_render_parts_widths.proofs.spans.add_all.Given as goal

-- the first `at` spans are spread
abbrev pub invariant-loop-at : goal.invariant-loop-at
invariant-loop-at l = IsSpread (length l.initial.values.items) l.columns l.longer l.at l.spans l.values.items
