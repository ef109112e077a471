use Rattle.std.proofs.Common.{◌++◌, ap, ◌∙◌}
use Rattle.std.specs.Str.{chars}
use Rattle.std.proofs.lemmas.Result.{on_ok_weaker}
use Rattle.html_render_layout_lines.specs.TaggedText.{under}
use Rattle.html_render_layout_buffer.specs.Pieces.{lines_of}
use Rattle.html_render_layout_buffer.proofs.PieceLines.{lines-behind}
use Rattle.html_render_layout_buffer.proofs.finished.FinishedLines.push_all_behind.Goals as goal

pub returns : goal.returns
returns g c =
    let l = under {M = g.row.M.Denot} c.args.prefix.now.tag (chars c.args.prefix.now.text.now) in
    on_ok_weaker c.push_pieces.result
    (λ e. e ∙ ap (λ y. c.args.self.now ++ y) (ap (λ y. lines_of y) c.in_ok-put_behind.ensures ∙ lines-behind l c.args.pieces)) c.push_pieces.ensures
