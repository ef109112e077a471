use Rattle.std.proofs.Common.{◌++◌, append-nil, ap, ◌∙◌}
use Rattle.std.proofs.lemmas.Result.{on_ok_weaker}
use Rattle.html_render_layout_buffer.specs.Pieces.{lines_of}
use Rattle.html_render_layout_buffer.proofs.PieceLines.{lines_of-end}
use Rattle.html_render_layout_buffer.proofs.finished.FinishedLines.push_piece.Goals as goal

pub returns : goal.returns
returns g c =
    on_ok_weaker c.push.result
    (λ e. ap (λ q. lines_of c.push.new.self ++ q.lines) c.in_ok-settle.ensures.last ∙ append-nil (lines_of c.push.new.self) ∙ ap (λ y. lines_of y) e
    ∙ lines_of-end c.settle.new.pieces c.args.piece ∙ ap (λ y. y ++ c.args.piece) (c.in_ok-settle.ensures.pieces ∙ c.self.view_is)) c.push.ensures
