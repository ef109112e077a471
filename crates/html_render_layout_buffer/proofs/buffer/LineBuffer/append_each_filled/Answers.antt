use Rattle.std.proofs.Common.{◌<◌, length, arith}
use Rattle.html_render_layout_buffer.specs.Padding.{filled_line}
use Rattle.html_render_layout_buffer.proofs.Growing.{one-more}
use Rattle.html_render_layout_buffer.proofs.buffer.LineBuffer.append_each_filled.Goals as goal

pub loop-n-preserved : goal.loop-n-preserved
loop-n-preserved g c =
    let h : c.loop-n.n < length c.args.other.now.lines = omega arith in
    one-more (λ y. filled_line c.args.tag c.args.width y) c.args.self.now c.loop-n.self c.append_line_filled.new.self c.loop-n.n c.args.other.now.lines
    c.loop-n.invariant c.in_ok-append_line_filled.ensures.ok h
