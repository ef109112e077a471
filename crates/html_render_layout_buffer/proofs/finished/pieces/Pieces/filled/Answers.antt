use Rattle.std.proofs.Common.{Some, ap, ◌∙◌}
use Rattle.html_render_layout_buffer.specs.Padding.{filled}
use Rattle.html_render_layout_buffer.specs.Pieces.{lines_of}
use Rattle.html_render_layout_buffer.proofs.PieceLines.{known-filled}
use Rattle.html_render_layout_buffer.proofs.finished.pieces.Pieces.filled.Goals as goal

pub invariant_of-result : goal.invariant_of-result
invariant_of-result g c =
    known-filled c.args.tag c.args.width _ _ _ _ _ _ c.self.invariant (c.in_ok-fill_narrow.ensures c.self.inside.count c.self.invariant)

pub returns : goal.returns
returns g c =
    c.in_ok-fill_narrow.ensures c.self.inside.count c.self.invariant
    ∙ ap (λ y. filled {M = g.row.M.Denot} (Some c.args.tag) c.args.width (lines_of y)) c.self.view_is
