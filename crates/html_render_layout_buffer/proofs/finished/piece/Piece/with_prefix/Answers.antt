use Rattle.std.proofs.Common.{reverse, ap, ◌∙◌}
use Rattle.std.specs.Str.{chars}
use Rattle.html_render_layout_lines.specs.TaggedText.{under}
use Rattle.html_render_layout_buffer.specs.Pieces.{with_front}
use Rattle.html_render_layout_buffer.proofs.PieceLines.{front-put, front-append}
use Rattle.html_render_layout_buffer.proofs.finished.piece.Piece.with_prefix.Goals as goal

pub returns : goal.returns
returns g c =
    let f = under {M = g.row.M.Denot} c.args.prefix.now.tag (chars c.args.prefix.now.text.now) in
    let ls = c.self.inside.lines.lines in
    c.in_ok-compact.ensures ∙ ap (λ y. with_front y ls) (front-put c.self.inside.front.items c.push_reversed.new.elements.items f c.in_ok-push_reversed.ensures)
    ∙ front-append f (reverse c.self.inside.front.items) ls ∙ ap (λ y. with_front f y) c.self.view_is
