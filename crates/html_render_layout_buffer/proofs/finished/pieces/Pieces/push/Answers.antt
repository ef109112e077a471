use Rattle.std.proofs.Common.{[], ◌∷◌, arith}
use Rattle.html_render_layout_buffer.proofs.PieceLines.{known-end, one-lines}
use Rattle.html_render_layout_buffer.proofs.finished.pieces.Pieces.push.Goals as goal

pub invariant_of-self-2 : goal.invariant_of-self-2
invariant_of-self-2 g c =
    known-end _ _ _ _ _ _ _ (c.args.piece ∷ []) _ c.self.invariant c.in_ok-push_back.ensures.items c.in_ok-back.ensures
    (omega (arith, c.in_ok-count.ensures, c.line_count.ensures.count, one-lines c.args.piece))
