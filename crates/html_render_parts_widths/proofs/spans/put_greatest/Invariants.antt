use Rattle.std.proofs.Common.{◌<◌, ◌≤◌, ◌+◌}
use Rattle.html_render_parts_widths.specs.SpanSteps.{IsSpread}
use Rattle.html_render_parts_widths.proofs.spans.put_greatest.Given as goal

abbrev pub invariant-loop-longer : goal.invariant-loop-longer
invariant-loop-longer l = IsSpread l.columns l.longer l.longer 0 l.spans l.values.items × (0 < l.longer) × (l.longer ≤ l.columns + 1)

abbrev pub decreases-loop-longer : goal.decreases-loop-longer
decreases-loop-longer l = l.longer
