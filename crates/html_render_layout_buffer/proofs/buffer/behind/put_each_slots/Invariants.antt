use Rattle.std.proofs.Common.{◌≡◌, ◌++◌, take, drop}
use Rattle.html_render_layout_buffer.specs.Fields.{lines_slots}
use Rattle.html_render_layout_buffer.proofs.BehindLines.{behind}
use Rattle.html_render_layout_buffer.proofs.buffer.behind.put_each_slots.Given as goal

abbrev pub invariant-loop-n : goal.invariant-loop-n
invariant-loop-n g l = l.slots ≡ l.initial.slots ++ lines_slots (behind l.prefix.tag l.prefix.text.now (drop l.from (take l.n l.lines.lines)))
