use Rattle.std.proofs.Common.{◌≡◌, ◌++◌, map}
use Rattle.html_render_layout_lines.specs.Line.{marks_line}
use Rattle.html_render_layout_buffer.proofs.finished.piece.push_marks_reversed.Given as goal

abbrev pub invariant-loop-mark : goal.invariant-loop-mark
invariant-loop-mark g l = l.elements.items ≡ l.fn.elements.items ++ marks_line (map (λ m. m.now) l.yielded)
