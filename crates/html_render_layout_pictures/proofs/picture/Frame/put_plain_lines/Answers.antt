use Rattle.std.proofs.Common.{◌≡◌, ℕ, List, ◌++◌, map, ap, ◌∙◌}
use Rattle.html_render_layout_lines.specs.Line.{Line}
use Rattle.html_render_layout_buffer.specs.Lines.{BufferedLines}
use Rattle.html_render_layout_pictures.specs.RowCells.{cells_of}
use Rattle.html_render_layout_pictures.specs.Rows.{marked_cell, row_line}
use Rattle.html_render_layout_pictures.proofs.CellLines.{next-put}
use Rattle.html_render_layout_pictures.proofs.picture.Frame.put_plain_lines.Goals as goal

pub loop-number-preserved : goal.loop-number-preserved
loop-number-preserved g c =
    let old = c.loop-number.to in
    let line : List (Line g.row.T.Denot g.row.M.Denot) → ℕ → Line g.row.T.Denot g.row.M.Denot =
    λ ls n. row_line c.args.self.now n (map marked_cell (cells_of c.args.cells.now ls)) in
    let put : c.put_plain_line.new.to ≡ record { lines = old.lines; line = old.line ++ line c.args.lines.now.lines c.loop-number.number } =
    c.in_ok-put_plain_line.ensures
    ∙ ap (λ n. record { lines = old.lines; line = old.line ++ line c.new.result.lines.now.lines n }) c.new.ensures.number
    ∙ ap (λ (b : BufferedLines g.row.T.Denot g.row.M.Denot). record { lines = old.lines; line = old.line ++ line b.lines c.loop-number.number })
    c.new.ensures.lines in
    next-put (line c.args.lines.now.lines) c.args.to.now old c.put_plain_line.new.to c.end_line.new.self c.loop-number.number c.loop-number.invariant put
    c.in_ok-end_line.ensures.ok
