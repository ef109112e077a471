use Rattle.std.proofs.Common.{◌<◌, length, arith}
use Rattle.html_render_layout_buffer.proofs.Growing.{one-copied}
use Rattle.html_render_layout_buffer.proofs.buffer.LineBuffer.append_rest.Goals as goal

pub loop-n-preserved : goal.loop-n-preserved
loop-n-preserved g c =
    let h : c.loop-n.n < length c.args.other.now.lines = omega arith in
    one-copied c.args.self.now c.loop-n.self c.append_ended.new.self c.loop-n.n c.args.other.now.lines c.loop-n.invariant
    c.in_ok-append_ended.ensures.ok (omega arith) h
