use Rattle.std.proofs.Common.{◌++◌, [], ap, ◌∙◌}
use Rattle.std.proofs.lemmas.Result.{on_ok_weaker}
use Rattle.html_render_layout_lines.specs.Line.{marks_line}
use Rattle.html_render_layout_buffer.specs.Pieces.{with_front}
use Rattle.html_render_layout_buffer.proofs.Growing.{front-copied}
use Rattle.html_render_layout_buffer.proofs.PieceLines.{front-marks}
use Rattle.html_render_layout_buffer.proofs.buffer.LineBuffer.append_marked.Goals as goal

pub returns : goal.returns
returns g c =
    let ms = c.args.marks.now in
    let ls = c.args.other.now.lines in
    on_ok_weaker c.append_rest.result
    (λ e. front-copied c.args.self.now c.push_marks.new.self c.append_ended.new.self c.append_rest.new.self (marks_line ms) ls
    c.requires.some c.in_ok-push_marks.ensures.ok (ap (λ b. b.line) c.requires.open) c.in_ok-append_ended.ensures.ok e
    ∙ ap (λ b. record { lines = b.lines ++ with_front (marks_line ms) ls; line = [] }) c.requires.open
    ∙ ap (λ y. record { lines = y; line = [] }) (front-marks ms ls))
    c.append_rest.ensures
