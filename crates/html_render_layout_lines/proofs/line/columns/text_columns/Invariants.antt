use Rattle.std.proofs.Common.{◌≡◌}
use Rattle.html_render_layout_lines.specs.TaggedText.{counted, text_columns}
use Rattle.html_render_layout_lines.proofs.line.columns.text_columns.Given as goal

abbrev pub invariant-loop-c : goal.invariant-loop-c
invariant-loop-c l = l.count ≡ counted (text_columns l.yielded)
