use Rattle.std.proofs.Common.{◌≡◌, List, [], ◌++◌, append_assoc, sym, ap, ◌∙◌}
use Rattle.html_render_layout_lines.specs.Line.{Line, marks_line}
use Rattle.html_render_layout_buffer.specs.Lines.{BufferedLines}
use Rattle.html_render_layout_buffer.specs.Marked.{marked_before}
use Rattle.html_render_layout_pictures.specs.Drawing.{Drawing}
use Rattle.html_render_layout_pictures.specs.Picture.{row_lines}
use Rattle.html_render_layout_pictures.proofs.CellLines.{rows-drawn}
use Rattle.html_render_layout_pictures.proofs.RowLines.{some_row_lines}
use Rattle.html_render_layout_pictures.proofs.picture.Picture.draw_many.Goals as goal

-- the last lines with those of the row, the first of which has the marks that waited
drawn : (g : _) (c : goal.Joined-self g) →
    c.put_row.new.to ≡ record {
      lines = c.self.inside.last.lines ++ marked_before c.self.inside.waiting.items (row_lines c.self.inside.frame c.args.row);
      line = [];
    }
drawn g c =
    let ls = c.self.inside.last.lines in
    let ms = c.self.inside.waiting.items in
    let last = c.replace-last.result in
    let marked : c.push_marks.new.self ≡ record { lines = ls; line = marks_line ms } =
    c.in_ok-push_marks.ensures.ok
    ∙ ap (λ y. record { lines = last.lines; line = last.line ++ marks_line {T = g.row.T.Denot} y }) c.as_slice.ensures.value
    ∙ ap (λ (b : BufferedLines g.row.T.Denot g.row.M.Denot). record { lines = b.lines; line = b.line ++ marks_line ms }) c.replace-last.ensures.value
    ∙ ap (λ l. record { lines = ls; line = l ++ marks_line ms }) c.self.invariant in
    let rows : List (Line g.row.T.Denot g.row.M.Denot) = row_lines c.self.inside.frame c.args.row in
    c.in_ok-spare.ensures.drawn ∙ rows-drawn c.push_marks.new.self ms ls rows (some_row_lines c.self.inside.frame c.args.row c.requires) marked

pub returns : goal.returns
returns g c =
    let first = c.self.inside.before in
    let ms = c.self.inside.waiting.items in
    let frame = c.self.inside.frame in
    let row = c.args.row in
    let picture : List (Line g.row.T.Denot g.row.M.Denot) → List g.row.M.Denot → Drawing g.row.T.Denot g.row.M.Denot =
    λ ls waiting. record { frame = frame; lines = ls; waiting = waiting; due = c.self.inside.due } in
    ap (λ (b : BufferedLines g.row.T.Denot g.row.M.Denot). picture (first ++ b.lines) c.clear.new.self.items) (drawn g c)
    ∙ ap (λ ls. picture ls c.clear.new.self.items) (sym (append_assoc first c.self.inside.last.lines (marked_before ms (row_lines frame row))))
    ∙ ap (picture ((first ++ c.self.inside.last.lines) ++ marked_before ms (row_lines frame row))) c.clear.ensures.items
    ∙ ap (λ (d : Drawing g.row.T.Denot g.row.M.Denot). record {
      frame = d.frame;
      lines = d.lines ++ marked_before d.waiting (row_lines d.frame row);
      waiting = [];
      due = d.due;
    }) c.self.view_is

pub invariant_of-self-2 : goal.invariant_of-self-2
invariant_of-self-2 g c = ap (λ (b : BufferedLines g.row.T.Denot g.row.M.Denot). b.line) (drawn g c)
