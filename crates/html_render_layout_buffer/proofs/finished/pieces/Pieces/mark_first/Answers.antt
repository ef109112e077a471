use Rattle.std.proofs.Common.{rules, ◌≡◌, [], ◌++◌, sym, ap, ◌∙◌}
use Rattle.std.proofs.lemmas.Result.{on_ok_weaker}
use Rattle.html_render_layout_buffer.specs.Marked.{marked_before}
use Rattle.html_render_layout_buffer.specs.Pieces.{lines_of}
use Rattle.html_render_layout_buffer.proofs.PieceLines.{marked-before}
use Rattle.html_render_layout_buffer.proofs.finished.pieces.Pieces.mark_first.Goals as goal

pub returns-in_default : goal.returns-in_default
returns-in_default g c =
    let none : c.args.self.now ≡ [] = search rules in
    let left : c.pop_first.new.self ≡ [] = search rules in
    ap (λ y. lines_of y) left ∙ sym (ap (λ y. marked_before c.args.marks.now (lines_of y)) none)

pub returns : goal.returns
returns g c =
    let rest = lines_of c.pop_first.new.self in
    on_ok_weaker c.push_first.result
    (λ e. ap (λ y. lines_of y) e ∙ ap (λ y. y ++ rest) c.in_ok-marked_first.ensures ∙ sym (marked-before c.args.marks.now c.in-Some.piece rest c.has_line.ensures)
    ∙ sym (ap (λ y. marked_before c.args.marks.now (lines_of y)) c.in-Some.ensures.some)) c.push_first.ensures
