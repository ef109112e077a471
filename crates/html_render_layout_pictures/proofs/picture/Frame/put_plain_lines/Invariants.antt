use Rattle.std.proofs.Common.{◌≡◌, map}
use Rattle.std.specs.List.{range_with_len}
use Rattle.html_render_layout_pictures.specs.RowCells.{cells_of}
use Rattle.html_render_layout_pictures.specs.Rows.{marked_cell, row_line, rows_put}
use Rattle.html_render_layout_pictures.proofs.picture.Frame.put_plain_lines.Given as goal

abbrev pub invariant-loop-number : goal.invariant-loop-number
invariant-loop-number g l =
    l.to ≡ rows_put l.initial.to (map (λ n. row_line l.self n (map marked_cell (cells_of l.cells l.lines.lines))) (range_with_len 0 l.number))
