use Rattle.std.proofs.Common.{◌≡◌, ◌++◌, take}
use Rattle.html_render_layout_lines.specs.Line.{marks_line}
use Rattle.html_render_layout_buffer.proofs.buffer.LineBuffer.push_marks.Given as goal

abbrev pub invariant-loop-mark : goal.invariant-loop-mark
invariant-loop-mark g l = l.self ≡ record { lines = l.initial.self.lines; line = l.initial.self.line ++ marks_line (take l.mark-index l.marks) }
