use Rattle.std.proofs.Common.{◌≡◌, [], ◌++◌, take, drop}
use Rattle.html_render_layout_buffer.proofs.buffer.LineBuffer.append_rest.Given as goal

abbrev pub invariant-loop-n : goal.invariant-loop-n
invariant-loop-n g l = l.self ≡ record { lines = l.initial.self.lines ++ drop 1 (take l.n l.other.lines); line = [] }
