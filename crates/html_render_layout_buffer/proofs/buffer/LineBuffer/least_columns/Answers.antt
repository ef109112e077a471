use Rattle.std.proofs.Common.{◌<◌, length, arith}
use Rattle.html_render_layout_buffer.proofs.PieceLines.{least-more}
use Rattle.html_render_layout_buffer.proofs.buffer.LineBuffer.least_columns.Goals as goal

pub loop-n-preserved : goal.loop-n-preserved
loop-n-preserved g c =
    let h : c.loop-n.n < length c.args.self.now.lines = omega arith in
    least-more c.args.self.now.lines c.loop-n.n c.loop-n.least c.lesser-least.result h c.loop-n.invariant c.lesser-least.ensures.own
    (c.lesser-least.ensures.line _ c.line_columns.ensures)
