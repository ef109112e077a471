use Rattle.std.proofs.Common.{List, map, length, Result, Ok, Err, OnOk, ap, ◌∙◌, arith}
use Rattle.std.specs.List.{range_with_len}
use Rattle.std.proofs.lemmas.Bool.{ne_eqb}
use Rattle.html_render_layout_lines.specs.Line.{Line}
use Rattle.html_render_layout_buffer.specs.Lines.{BufferedLines}
use Rattle.html_render_layout_pictures.specs.declared.cells.RowCell.{RowCell}
use Rattle.html_render_layout_pictures.specs.Picture.{KeptCell, height}
use Rattle.html_render_layout_pictures.specs.RowCells.{cells_of}
use Rattle.html_render_layout_pictures.specs.Rows.{marked_cell, row_line, rows_put}
use Rattle.html_render_layout_pictures.proofs.RowLines.{row_lines_by_number}
use Rattle.html_render_layout_pictures.proofs.picture.Frame.put_row.Goals as goal

always : {T E P : Type 0} (r : Result T E) → P → OnOk r P
always (Ok x) p = p
always (Err e) p = tt

pub returns-clause-drawn : goal.returns-clause-drawn
returns-clause-drawn g c =
    let frame = c.args.self.now in
    let row = c.args.row in
    let drawn : List (KeptCell g.row.T.Denot g.row.M.Denot) → BufferedLines g.row.T.Denot g.row.M.Denot =
    λ cs. rows_put c.args.to.now (map (λ n. row_line frame n (map marked_cell cs)) (range_with_len 0 (height cs))) in
    let some = ne_eqb (length row) 0 (λ e. absurd (omega (arith, e, c.requires))) in
    always c.in_memory_of.result (c.in_ok-put_lines.ensures
    ∙ ap (λ (ds : List (RowCell g.row.M.Denot)). drawn (cells_of ds c.in_ok-lines.lines.lines)) c.as_slice.ensures.value
    ∙ ap (λ (b : BufferedLines g.row.T.Denot g.row.M.Denot). drawn (cells_of c.into_contents-cells.result.cells.items b.lines)) c.in_ok-lines.ensures
    ∙ ap drawn c.into_contents-cells.ensures.cells
    ∙ ap (λ (ls : List (Line g.row.T.Denot g.row.M.Denot)). rows_put c.args.to.now ls) (row_lines_by_number frame row some))
