use Rattle.std.proofs.Common.{◌≡◌, List, [], ◌++◌, refl}
use Rattle.std.proofs.lemmas.Result.{on_ok_weaker}
use Rattle.html_render_layout_buffer.specs.Marked.{marked_before}
use Rattle.html_render_layout_pictures.specs.Drawing.{Drawing, due_lines, due_below, with_cells}
use Rattle.html_render_layout_pictures.specs.Picture.{KeptCell, row_lines, separators_of, waiting_in}
use Rattle.html_render_layout_pictures.proofs.picture.Picture.draw_row.Goals as goal

-- the border that is due, the marks that wait and the lines of a row, one after another
drawn : {T M : Type 0} (row : List (KeptCell T M)) (old bordered inside new : Drawing T M) (marks : List M) →
    bordered ≡ record old { lines = old.lines ++ due_lines old.frame old.due (separators_of row); due = due_below old.frame (separators_of row) } →
    inside ≡ bordered → marks ≡ inside.waiting ++ waiting_in row →
    new ≡ record inside { lines = inside.lines ++ marked_before marks (row_lines inside.frame row); waiting = [] } → new ≡ with_cells old row
drawn row old bordered inside new marks e f h k = rw (k, h, f, e) refl

pub returns-then-len-eq1 : goal.returns-then-len-eq1
returns-then-len-eq1 g c =
    on_ok_weaker c.draw_only_cell.result
    (λ k. drawn c.args.row c.args.self.now _ _ _ _ c.in_ok-draw_border.ensures c.self.view_is c.in_ok-wait_for_lines.ensures k) c.draw_only_cell.ensures

pub returns-else-len-eq1 : goal.returns-else-len-eq1
returns-else-len-eq1 g c =
    on_ok_weaker c.draw_cells.result
    (λ k. drawn c.args.row c.args.self.now _ _ _ _ c.in_ok-draw_border.ensures c.self.view_is c.in_ok-wait_for_lines.ensures k) c.draw_cells.ensures
