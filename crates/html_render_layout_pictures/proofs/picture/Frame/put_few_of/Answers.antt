use Rattle.std.proofs.Common.{List, ◌++◌, map, length, ap, ◌∙◌, arith}
use Rattle.std.specs.List.{range_with_len}
use Rattle.std.proofs.lemmas.Bool.{ne_eqb}
use Rattle.html_render_layout_lines.specs.Line.{Line, marks_line}
use Rattle.html_render_layout_buffer.specs.Lines.{BufferedLines}
use Rattle.html_render_layout_pictures.specs.declared.cells.RowCell.{RowCell}
use Rattle.html_render_layout_pictures.specs.Picture.{KeptCell, height}
use Rattle.html_render_layout_pictures.specs.RowCells.{cells_of}
use Rattle.html_render_layout_pictures.specs.Rows.{marked_cell, row_line, rows_put}
use Rattle.html_render_layout_pictures.proofs.RowLines.{row_lines_by_number}
use Rattle.html_render_layout_pictures.proofs.picture.Frame.put_few_of.Goals as goal

pub returns-clause-ok : goal.returns-clause-ok
returns-clause-ok g c =
    let frame = c.args.self.now in
    let row = c.args.row.now in
    let marked : BufferedLines g.row.T.Denot g.row.M.Denot = record { lines = c.args.to.now.lines; line = c.args.to.now.line ++ marks_line c.args.marks.now } in
    let drawn : BufferedLines g.row.T.Denot g.row.M.Denot → List (KeptCell g.row.T.Denot g.row.M.Denot) → BufferedLines g.row.T.Denot g.row.M.Denot =
    λ b cs. rows_put b (map (λ n. row_line frame n (map marked_cell cs)) (range_with_len 0 (height cs))) in
    let some = ne_eqb (length row) 0 (λ e. absurd (omega (arith, e, c.requires))) in
    c.in_ok-put_lines_or_clear.ensures.ok
    ∙ ap (λ (b : BufferedLines g.row.T.Denot g.row.M.Denot). drawn b (cells_of c.as_slice.result.now c.in-Some.lines.now.lines)) c.in_ok-push_marks.ensures.ok
    ∙ ap (λ (ds : List (RowCell g.row.M.Denot)). drawn marked (cells_of ds c.in-Some.lines.now.lines)) (rw c.deref-2.ensures at c.as_slice.ensures.value)
    ∙ ap (λ (b : BufferedLines g.row.T.Denot g.row.M.Denot). drawn marked (cells_of c.row.inside.held.value.cells.items b.lines)) (rw c.deref.ensures at c.in-Some.ensures)
    ∙ ap (drawn marked) c.row.view_is
    ∙ ap (λ (ls : List (Line g.row.T.Denot g.row.M.Denot)). rows_put marked ls) (row_lines_by_number frame row some)
