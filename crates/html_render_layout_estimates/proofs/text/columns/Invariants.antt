use Rattle.std.proofs.Common.{◌≡◌}
use Rattle.html_render_layout_lines.specs.TaggedText.{text_columns}
use Rattle.html_render_layout_estimates.specs.TextSize.{saturated}
use Rattle.html_render_layout_estimates.proofs.text.columns.Given as goal

abbrev pub invariant-loop-c : goal.invariant-loop-c
invariant-loop-c l = l.columns ≡ saturated (text_columns l.yielded)
