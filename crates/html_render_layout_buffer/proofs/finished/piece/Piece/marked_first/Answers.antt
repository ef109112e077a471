use Rattle.std.proofs.Common.{◌≡◌, reverse, sym, ap, ◌∙◌, arith}
use Rattle.html_render_layout_lines.specs.Line.{columns, marks_line}
use Rattle.html_render_layout_lines.specs.TaggedText.{counted}
use Rattle.html_render_layout_lines.specs.laws.Columns.{columns-append, columns-marks}
use Rattle.html_render_layout_buffer.specs.Marked.{marked_before}
use Rattle.html_render_layout_buffer.specs.Pieces.{with_front}
use Rattle.html_render_layout_buffer.proofs.PieceLines.{marks-put, front-append, front-marks}
use Rattle.html_render_layout_buffer.proofs.finished.piece.Piece.marked_first.Goals as goal

pub invariant_of-result : goal.invariant_of-result
invariant_of-result g c =
    let ms = c.args.marks.now in
    let front = reverse c.self.inside.front.items in
    let put = marks-put c.self.inside.front.items c.push_marks_reversed.new.elements.items ms c.in_ok-push_marks_reversed.ensures in
    let same : columns (reverse c.push_marks_reversed.new.elements.items) ≡ columns front =
    omega (arith, ap (λ l. columns l) put, columns-append (marks_line ms) front, columns-marks g.row.T.Denot ms) in
    record {
      some = c.self.invariant.some;
      closed = c.self.invariant.closed;
      counts = c.self.invariant.counts
          ∙ ap counted (sym same);
    }

pub returns : goal.returns
returns g c =
    let ms = c.args.marks.now in
    let front = reverse c.self.inside.front.items in
    let ls = c.self.inside.lines.lines in
    ap (λ f. with_front f ls) (marks-put c.self.inside.front.items c.push_marks_reversed.new.elements.items ms c.in_ok-push_marks_reversed.ensures)
    ∙ front-append (marks_line ms) front ls ∙ front-marks ms (with_front front ls) ∙ ap (λ y. marked_before ms y) c.self.view_is
