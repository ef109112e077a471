use Rattle.std.proofs.Common.{◌≡◌, Some, List, [], ◌∷◌, ◌++◌, length, sym, ap, ◌∙◌, arith}
use Rattle.std.proofs.lemmas.List.{nil_from_length}
use Rattle.html_render_layout_lines.specs.Line.{Line}
use Rattle.html_render_layout_buffer.specs.Marked.{marked_behind}
use Rattle.html_render_layout_buffer.specs.Padding.{filled}
use Rattle.html_render_layout_pictures.specs.Picture.{KeptCell, row_lines}
use Rattle.html_render_layout_pictures.proofs.CellLines.{one-counted, only-row, only-count, some-lines}
use Rattle.html_render_layout_pictures.proofs.OnlyCell.{only_cell, only_blank_cell, one_cell}
use Rattle.html_render_layout_pictures.proofs.picture.Frame.only_cell_lines.Goals.{then-cell-eq0+in_ok-push_marks_line, else-cell-eq0+in_ok-mark_last}
use Rattle.html_render_layout_pictures.proofs.picture.Frame.only_cell_lines.Goals as goal

pub returns-in_default : goal.returns-in_default
returns-in_default g c =
    let one = one-counted _ c.into_contents-cells.result.cells.items c.into_contents-cells.result.lines c.args.row c.as_slice.ensures.value c.into_contents-cells.ensures.cells c.requires in
    absurd (omega (arith, one, c.in_default.len_below))

pub returns : goal.returns
returns g c =
    let frame = c.args.self.now in
    let cells = c.into_contents-cells.result.cells.items in
    let ls = c.into_contents-cells.result.lines in
    let cell = c.cell-item.result in
    let ms = cell.marks.items in
    let kept : KeptCell g.row.T.Denot g.row.M.Denot = record { width = cell.width; lines = ls; marks = ms } in
    let one = one-counted _ cells ls c.args.row c.as_slice.ensures.value c.into_contents-cells.ensures.cells c.requires in
    let only : cells ≡ cell ∷ [] = sym c.as_slice.ensures.value ∙ one_cell c.as_slice.result.now cell one c.cell-item.is in
    let count : cell.count ≡ length ls = only-count cells ls cell only c.into_contents-cells.ensures.lines in
    let row : kept ∷ [] ≡ c.args.row = sym (only-row cells ls cell only c.into_contents-cells.ensures.lines) ∙ c.into_contents-cells.ensures.cells in
    let drawn : filled (Some frame.tag) cell.width c.if-cell-eq0.lines ≡ row_lines frame (kept ∷ []) =
    elim c.if-cell-eq0.branch [
      | then-cell-eq0+in_ok-push_marks_line w ↦
          let none : length ls ≡ 0 = sym count ∙ w.if-cell-eq0.true in
          ap (λ y. filled (Some frame.tag) cell.width y)
          (w.lines-is ∙ w.in_ok-push_marks_line.ensures ∙ ap (λ (y : List (Line g.row.T.Denot g.row.M.Denot)). y ++ [] ∷ []) (nil_from_length ls none))
          ∙ sym (only_blank_cell frame kept none)
      | else-cell-eq0+in_ok-mark_last w ↦
          ap (λ y. filled (Some frame.tag) cell.width y)
          (w.lines-is ∙ w.in_ok-mark_last.ensures ∙ ap (λ y. marked_behind y ls) w.as_slice-else-cell-eq0.ensures.value)
          ∙ sym (only_cell frame kept (some-lines ls (λ e. w.if-cell-eq0.false (count ∙ e))))
    ] in
    c.in_ok-fill.ensures ∙ drawn ∙ ap (λ r. row_lines frame r) row
