use Rattle.std.proofs.Common.{◌≡◌, List, [], ◌++◌, ap, ◌∙◌}
use Rattle.html_render_layout_lines.specs.Line.{Line, marks_line}
use Rattle.html_render_layout_buffer.specs.Lines.{BufferedLines}
use Rattle.html_render_layout_buffer.specs.Marked.{marked_before}
use Rattle.html_render_layout_pictures.specs.Picture.{row_lines}
use Rattle.html_render_layout_pictures.proofs.CellLines.{rows-drawn}
use Rattle.html_render_layout_pictures.proofs.RowLines.{some_row_lines}
use Rattle.html_render_layout_pictures.proofs.picture.Picture.draw_few.Goals as goal

-- the last lines with those of the row, the first of which has the marks that waited
drawn : (g : _) (c : goal.After-clear g) →
    c.put_few_of.new.to ≡ record {
      lines = c.self.inside.last.lines ++ marked_before c.self.inside.waiting.items (row_lines c.self.inside.frame c.args.row.now);
      line = [];
    }
drawn g c =
    let last = c.self.inside.last in
    let ms = c.self.inside.waiting.items in
    let marked : BufferedLines g.row.T.Denot g.row.M.Denot = record { lines = last.lines; line = last.line ++ marks_line c.as_slice.result.now } in
    let all : marked ≡ record { lines = last.lines; line = marks_line ms } =
    ap (λ y. record { lines = last.lines; line = last.line ++ marks_line {T = g.row.T.Denot} y }) c.as_slice.ensures.value
    ∙ ap (λ l. record { lines = last.lines; line = l ++ marks_line ms }) c.self.invariant in
    let rows : List (Line g.row.T.Denot g.row.M.Denot) = row_lines c.self.inside.frame c.args.row.now in
    (rw c.if-put.true at c.in_ok-put.ensures.ok) ∙ rows-drawn marked ms last.lines rows (some_row_lines c.self.inside.frame c.args.row.now c.requires) all

pub invariant_of-self-then-put : goal.invariant_of-self-then-put
invariant_of-self-then-put g c = ap (λ (b : BufferedLines g.row.T.Denot g.row.M.Denot). b.line) (drawn g c)
