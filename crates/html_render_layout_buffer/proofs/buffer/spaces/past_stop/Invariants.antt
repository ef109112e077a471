use Rattle.std.proofs.Common.{◌≡◌, ◌%◌}
use Rattle.html_render_layout_lines.specs.TaggedText.{text_columns}
use Rattle.html_render_layout_buffer.proofs.buffer.spaces.past_stop.Given as goal

abbrev pub invariant-loop-c : goal.invariant-loop-c
invariant-loop-c l = l.at ≡ text_columns l.yielded % 8
