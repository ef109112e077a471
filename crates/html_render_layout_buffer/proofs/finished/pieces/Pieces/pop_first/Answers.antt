use Rattle.std.proofs.Common.{arith}
use Rattle.html_render_layout_buffer.proofs.PieceLines.{known-rest, rest-count}
use Rattle.html_render_layout_buffer.proofs.finished.pieces.Pieces.pop_first.Goals as goal

pub overflow_sub-self : goal.overflow_sub-self
overflow_sub-self g c =
    omega (arith, c.self.invariant.counts, c.line_count.ensures.count, rest-count c.self.inside.pieces.items c.pop_front.new.self.items c.in-Some.piece c.in-Some.ensures.items)

pub invariant_of-self-2 : goal.invariant_of-self-2
invariant_of-self-2 g c =
    known-rest _ _ _ _ _ _ _ _ c.in-Some.piece c.self.invariant c.in-Some.ensures.items (omega arith)
    (omega (arith, c.self.invariant.counts, c.line_count.ensures.count, rest-count c.self.inside.pieces.items c.pop_front.new.self.items c.in-Some.piece c.in-Some.ensures.items))
