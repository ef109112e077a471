use Rattle.std.proofs.Common.{◌≡◌, [], ◌++◌, Some, take}
use Rattle.html_render_layout_buffer.specs.Padding.{filled}
use Rattle.html_render_layout_buffer.proofs.buffer.LineBuffer.append_each_filled.Given as goal

abbrev pub invariant-loop-n : goal.invariant-loop-n
invariant-loop-n g l = l.self ≡ record { lines = l.initial.self.lines ++ take l.n (filled (Some l.tag) l.width l.other.lines); line = [] }
