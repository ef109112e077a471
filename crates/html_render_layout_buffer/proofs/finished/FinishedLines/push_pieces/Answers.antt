use Rattle.std.proofs.Common.{◌++◌, append-nil, ap, ◌∙◌}
use Rattle.std.proofs.lemmas.Result.{on_ok_weaker}
use Rattle.html_render_layout_buffer.specs.Pieces.{lines_of}
use Rattle.html_render_layout_buffer.proofs.PieceLines.{lines_of-append}
use Rattle.html_render_layout_buffer.proofs.finished.FinishedLines.push_pieces.Goals as goal

pub returns : goal.returns
returns g c =
    on_ok_weaker c.append.result
    (λ e. ap (λ q. lines_of c.append.new.self ++ q.lines) c.in_ok-settle.ensures.last ∙ append-nil (lines_of c.append.new.self) ∙ ap (λ y. lines_of y) e
    ∙ lines_of-append c.settle.new.pieces c.args.pieces.now ∙ ap (λ y. y ++ lines_of c.args.pieces.now) (c.in_ok-settle.ensures.pieces ∙ c.self.view_is)) c.append.ensures
