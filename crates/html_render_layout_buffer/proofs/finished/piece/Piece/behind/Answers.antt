use Rattle.std.proofs.Common.{◌++◌, map, ap, ◌∙◌}
use Rattle.std.specs.Str.{chars}
use Rattle.html_render_layout_lines.specs.Line.{Line}
use Rattle.html_render_layout_lines.specs.TaggedText.{under}
use Rattle.html_render_layout_buffer.specs.Lines.{BufferedLines}
use Rattle.html_render_layout_buffer.proofs.PieceLines.{front-only}
use Rattle.html_render_layout_buffer.proofs.finished.piece.Piece.behind.Goals as goal

pub returns-then-is_long : goal.returns-then-is_long
returns-then-is_long g c =
    c.in_ok-piece.ensures ∙ front-only (under {M = g.row.M.Denot} c.args.prefix.now.tag (chars c.args.prefix.now.text.now)) c.args.self c.if-is_long.ensures

pub returns : goal.returns
returns g c =
    let f : Line g.row.T.Denot g.row.M.Denot → Line g.row.T.Denot g.row.M.Denot = λ l. under {M = g.row.M.Denot} c.args.prefix.now.tag (chars c.args.prefix.now.text.now) ++ l in
    c.new.ensures ∙ ap (λ (b : BufferedLines g.row.T.Denot g.row.M.Denot). b.lines) c.in_ok-append_each_behind.ensures.ok
    ∙ ap (λ (b : BufferedLines g.row.T.Denot g.row.M.Denot). b.lines ++ map f c.in_ok-lines.lines.lines) c.new-to.ensures
    ∙ ap (λ (b : BufferedLines g.row.T.Denot g.row.M.Denot). map f b.lines) c.in_ok-lines.ensures
