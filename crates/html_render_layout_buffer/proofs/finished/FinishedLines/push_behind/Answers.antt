use Rattle.std.proofs.Common.{◌++◌, ap, ◌∙◌}
use Rattle.std.specs.Str.{chars}
use Rattle.std.proofs.lemmas.Result.{on_ok_weaker}
use Rattle.html_render_layout_lines.specs.TaggedText.{under}
use Rattle.html_render_layout_buffer.specs.Marked.{marked_before}
use Rattle.html_render_layout_buffer.proofs.PieceLines.{only-prefixed}
use Rattle.html_render_layout_buffer.proofs.finished.FinishedLines.push_behind.Goals as goal

pub returns-then-is_long : goal.returns-then-is_long
returns-then-is_long g c =
    let ms = c.args.marks.now in
    let f = under {M = g.row.M.Denot} c.args.first.now.tag (chars c.args.first.now.text.now) in
    let l = under {M = g.row.M.Denot} c.args.later.now.tag (chars c.args.later.now.text.now) in
    on_ok_weaker c.push_piece.result
    (λ e. e ∙ ap (λ y. c.args.self.now ++ y) (c.in_ok-marked_first.ensures ∙ ap (λ y. marked_before ms y) c.in_ok-with_prefix.ensures
    ∙ only-prefixed ms f l c.args.piece c.if-is_long.ensures)) c.push_piece.ensures
