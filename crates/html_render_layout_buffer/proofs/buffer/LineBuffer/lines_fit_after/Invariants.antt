use Rattle.std.proofs.Common.{◌≡◌, nat_le, true, take, drop}
use Rattle.std.specs.List.{list_all}
use Rattle.html_render_layout_lines.specs.Line.{columns}
use Rattle.html_render_layout_buffer.proofs.buffer.LineBuffer.lines_fit_after.Given as goal

abbrev pub invariant-loop-n : goal.invariant-loop-n
invariant-loop-n g l = list_all (λ y. nat_le (columns y) l.room) (drop l.from (take l.n l.self.lines)) ≡ true
