use Rattle.std.proofs.Common.{rules, ◌≡◌, length, arith}
use Rattle.html_render_layout_buffer.proofs.PieceLines.{known-end, known-front}
use Rattle.html_render_layout_buffer.proofs.finished.pieces.Pieces.joined.Goals as goal

pub invariant_of-result : goal.invariant_of-result
invariant_of-result g c =
    let own = c.self.inside.pieces.items in
    let size : c.len-then-len.result ≡ length own = search rules in
    known-front _ _ _ _ _ _ c.others.inside.pieces.items own _ c.others.invariant c.in_ok-pieces.ensures (omega (arith, size, c.in_ok-front.ensures))
    (omega (arith, c.in_ok-count.ensures, c.self.invariant.counts))

pub invariant_of-result-2 : goal.invariant_of-result-2
invariant_of-result-2 g c =
    let others = c.others.inside.pieces.items in
    let size : c.len-3.result ≡ length others = search rules in
    known-end _ _ _ _ _ _ c.self.inside.pieces.items others _ c.self.invariant c.in_ok-pieces-2.ensures (omega (arith, size, c.in_ok-back.ensures))
    (omega (arith, c.in_ok-count.ensures, c.others.invariant.counts))
