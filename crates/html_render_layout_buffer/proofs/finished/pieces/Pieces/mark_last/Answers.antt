use Rattle.std.proofs.Common.{rules, ◌≡◌, [], ◌++◌, sym, ap, ◌∙◌}
use Rattle.std.proofs.lemmas.Result.{on_ok_weaker}
use Rattle.html_render_layout_buffer.specs.Marked.{marked_behind}
use Rattle.html_render_layout_buffer.specs.Pieces.{lines_of}
use Rattle.html_render_layout_buffer.proofs.PieceLines.{lines_of-end, marked-behind}
use Rattle.html_render_layout_buffer.proofs.finished.pieces.Pieces.mark_last.Goals as goal

pub returns-in_default : goal.returns-in_default
returns-in_default g c =
    let none : c.args.self.now ≡ [] = search rules in
    let left : c.pop_last.new.self ≡ [] = search rules in
    ap (λ y. lines_of y) left ∙ sym (ap (λ y. marked_behind c.args.marks.now (lines_of y)) none)

pub returns : goal.returns
returns g c =
    let ms = c.args.marks.now in
    let rest = c.pop_last.new.self in
    let piece = c.in-Some.piece in
    on_ok_weaker c.push.result
    (λ e. ap (λ y. lines_of y) e ∙ lines_of-end rest c.in_ok-marked_last.field-0 ∙ ap (λ y. lines_of rest ++ y) c.in_ok-marked_last.ensures
    ∙ sym (marked-behind ms (lines_of rest) piece c.has_line.ensures)
    ∙ ap (λ y. marked_behind ms y) (sym (lines_of-end rest piece) ∙ sym (ap (λ y. lines_of y) c.in-Some.ensures.some))) c.push.ensures
