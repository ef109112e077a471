use Rattle.std.proofs.Common.{rules, ◌≡◌, ◌++◌, ap, ◌∙◌}
use Rattle.std.proofs.lemmas.Result.{on_ok_weaker}
use Rattle.html_render_layout_buffer.specs.Pieces.{lines_of}
use Rattle.html_render_layout_buffer.proofs.PieceLines.{lines_of-end}
use Rattle.html_render_layout_buffer.proofs.finished.settle.Goals as goal

pub returns-clause-pieces : goal.returns-clause-pieces
returns-clause-pieces g c =
    let piece : c.new-piece.result ≡ c.args.last.now.lines = search rules in
    on_ok_weaker c.push.result
    (λ e. ap (λ y. lines_of y) e ∙ lines_of-end c.args.pieces.now c.new-piece.result ∙ ap (λ y. lines_of c.args.pieces.now ++ y) piece) c.push.ensures
