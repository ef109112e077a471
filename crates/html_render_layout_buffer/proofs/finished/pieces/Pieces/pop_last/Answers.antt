use Rattle.std.proofs.Common.{arith}
use Rattle.html_render_layout_buffer.proofs.PieceLines.{known-but-last, but-last-count}
use Rattle.html_render_layout_buffer.proofs.finished.pieces.Pieces.pop_last.Goals as goal

pub overflow_sub-self : goal.overflow_sub-self
overflow_sub-self g c =
    omega (arith, c.self.invariant.counts, c.line_count.ensures.count, but-last-count c.self.inside.pieces.items c.pop_back.new.self.items c.in-Some.piece c.in-Some.ensures.items)

pub invariant_of-self-2 : goal.invariant_of-self-2
invariant_of-self-2 g c =
    known-but-last _ _ _ _ _ _ _ _ c.in-Some.piece c.self.invariant c.in-Some.ensures.items (omega arith)
    (omega (arith, c.self.invariant.counts, c.line_count.ensures.count, but-last-count c.self.inside.pieces.items c.pop_back.new.self.items c.in-Some.piece c.in-Some.ensures.items))
