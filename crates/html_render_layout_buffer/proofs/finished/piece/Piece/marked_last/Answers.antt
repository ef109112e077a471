use Rattle.std.proofs.Common.{reverse, ap, ◌∙◌}
use Rattle.html_render_layout_buffer.specs.Marked.{marked_behind}
use Rattle.html_render_layout_buffer.specs.Pieces.{with_front}
use Rattle.html_render_layout_buffer.proofs.PieceLines.{length-behind, front-marked}
use Rattle.html_render_layout_buffer.proofs.finished.piece.Piece.marked_last.Goals as goal

pub mark_last-requires : goal.mark_last-requires
mark_last-requires g c = c.self.invariant.closed

pub invariant_of-result : goal.invariant_of-result
invariant_of-result g c =
    let e = c.in_ok-mark_last.ensures.ok in
    record {
      some = rw e (rw (length-behind c.args.marks.now c.self.inside.lines.lines) c.self.invariant.some);
      closed = ap (λ q. q.line) e;
      counts = c.self.invariant.counts;
    }

pub returns : goal.returns
returns g c =
    let ms = c.args.marks.now in
    let front = reverse c.self.inside.front.items in
    ap (λ q. with_front front q.lines) c.in_ok-mark_last.ensures.ok ∙ front-marked front ms c.self.inside.lines.lines
    ∙ ap (λ y. marked_behind ms y) c.self.view_is
