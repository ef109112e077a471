use Rattle.std.proofs.Common.{◌≡◌, ◌++◌, map}
use Rattle.html_render_layout_buffer.proofs.buffer.LineBuffer.push_reversed.Given as goal

abbrev pub invariant-loop-element : goal.invariant-loop-element
invariant-loop-element g l = l.self ≡ record { lines = l.initial.self.lines; line = l.initial.self.line ++ map (λ e. e.now) l.yielded }
