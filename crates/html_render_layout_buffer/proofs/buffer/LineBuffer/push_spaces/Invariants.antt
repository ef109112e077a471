use Rattle.std.proofs.Common.{◌≡◌}
use Rattle.html_render_layout_buffer.specs.Lines.{with_spaces}
use Rattle.html_render_layout_buffer.proofs.buffer.LineBuffer.push_spaces.Given as goal

abbrev pub invariant-loop-left : goal.invariant-loop-left
invariant-loop-left g l = with_spaces l.self l.tag l.left ≡ with_spaces l.fn.self l.tag l.count

abbrev pub decreases-loop-left : goal.decreases-loop-left
decreases-loop-left g l = l.left
