use Rattle.std.proofs.Common.{take}
use Rattle.html_render_layout_buffer.specs.Pieces.{AllAtLeast}
use Rattle.html_render_layout_buffer.proofs.buffer.LineBuffer.least_columns.Given as goal

abbrev pub invariant-loop-n : goal.invariant-loop-n
invariant-loop-n g l = AllAtLeast l.least (take l.n l.self.lines)
