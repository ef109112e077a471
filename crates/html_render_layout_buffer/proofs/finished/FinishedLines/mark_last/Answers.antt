use Rattle.std.proofs.Common.{rules, ◌≡◌, ◌<◌, ◌++◌, length, sym, ap, ◌∙◌}
use Rattle.std.proofs.lemmas.List.{nil_from_length}
use Rattle.std.proofs.lemmas.Result.{on_ok_weaker}
use Rattle.html_render_layout_buffer.specs.Marked.{marked_behind}
use Rattle.html_render_layout_buffer.specs.Pieces.{lines_of}
use Rattle.html_render_layout_buffer.proofs.PieceLines.{marked-none, marked-behind}
use Rattle.html_render_layout_buffer.proofs.finished.FinishedLines.mark_last.Goals as goal

pub returns-then-is_empty : goal.returns-then-is_empty
returns-then-is_empty g c =
    let none : length c.args.marks.now ≡ 0 = search rules in
    sym (marked-none c.args.marks.now c.args.self.now (nil_from_length c.args.marks.now none))

pub returns-then-line_count-gt0 : goal.returns-then-line_count-gt0
returns-then-line_count-gt0 g c =
    let ms = c.args.marks.now in
    let first = lines_of c.self.inside.pieces in
    let last = c.self.inside.last.lines in
    let some : 0 < length last = search rules in
    on_ok_weaker c.mark_last.result
    (λ e. ap (λ q. first ++ q.lines) e ∙ sym (marked-behind ms first last some) ∙ ap (λ y. marked_behind ms y) c.self.view_is)
    c.mark_last.ensures.ok
