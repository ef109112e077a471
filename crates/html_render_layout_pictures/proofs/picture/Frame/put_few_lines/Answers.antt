use Rattle.std.proofs.Common.{◌≡◌, Some, List, [], ◌∷◌, ◌++◌, length, sym, ap, ◌∙◌}
use Rattle.std.proofs.lemmas.Bool.{eqb-true}
use Rattle.std.proofs.lemmas.List.{nil_from_length}
use Rattle.html_render_layout_lines.specs.Line.{Line}
use Rattle.html_render_layout_buffer.specs.Lines.{BufferedLines}
use Rattle.html_render_layout_buffer.specs.Padding.{filled}
use Rattle.html_render_layout_pictures.specs.Picture.{KeptCell, row_lines}
use Rattle.html_render_layout_pictures.proofs.CellLines.{one-counted, only-row, only-count, some-lines}
use Rattle.html_render_layout_pictures.proofs.OnlyCell.{only_cell, one_cell, none_behind}
use Rattle.html_render_layout_pictures.proofs.picture.Frame.put_few_lines.Goals as goal

pub returns : goal.returns
returns g c =
    let frame = c.args.self.now in
    let cells = c.row.inside.held.value.cells.items in
    let ls = c.row.inside.held.value.lines in
    let cell = c.cell-item.result in
    let kept : KeptCell g.row.T.Denot g.row.M.Denot = record { width = cell.width; lines = ls; marks = cell.marks.items } in
    let one = one-counted _ cells ls c.args.row.now (rw c.deref.ensures at c.as_slice.ensures.value) c.row.view_is c.requires.only in
    let only : cells ≡ cell ∷ [] = sym (rw c.deref.ensures at c.as_slice.ensures.value) ∙ one_cell c.as_slice.result.now cell one c.cell-item.is in
    let count : cell.count ≡ length ls = only-count cells ls cell only c.row.invariant in
    let row : kept ∷ [] ≡ c.args.row.now = sym (only-row cells ls cell only c.row.invariant) ∙ c.row.view_is in
    let none = sym c.as_slice-marks.ensures.value ∙ nil_from_length c.as_slice-marks.result.now (eqb-true _ _ (sym c.if-not-is_empty.ensures)) in
    let put : List (Line g.row.T.Denot g.row.M.Denot) → BufferedLines g.row.T.Denot g.row.M.Denot =
    λ added. record { lines = c.args.to.now.lines ++ added; line = [] } in
    c.in_ok-append_filled.ensures.ok
    ∙ ap (λ (b : BufferedLines g.row.T.Denot g.row.M.Denot). put (filled (Some frame.tag) cell.width b.lines)) (rw c.deref-2.ensures at c.in-Some.ensures)
    ∙ ap (λ l. put (filled (Some frame.tag) cell.width l)) (sym (none_behind cell.marks.items ls none))
    ∙ ap put (sym (only_cell frame kept (some-lines ls (λ e. c.if-cell-eq0.false (count ∙ e)))))
    ∙ ap (λ r. put (row_lines frame r)) row
