use Rattle.std.proofs.Common.{◌≡◌, ◌+◌, List, [], ◌∷◌, ◌++◌, length, ap, ◌∙◌, arith, length-append}
use Rattle.std.proofs.lemmas.Result.{on_ok_weaker}
use Rattle.html_render_layout_lines.specs.Line.{Line}
use Rattle.html_render_layout_pictures.specs.declared.cells.RowCell.{RowCell}
use Rattle.html_render_layout_pictures.specs.declared.cells.RowContents.{RowContents}
use Rattle.html_render_layout_pictures.specs.Picture.{KeptCell}
use Rattle.html_render_layout_pictures.specs.RowCells.{cells_of, line_total}
use Rattle.html_render_layout_pictures.proofs.CellLines.{cell-pushed, total-end}
use Rattle.html_render_layout_pictures.proofs.cells.RowCells.push.Goals as goal

pub returns-in-Ok : goal.returns-in-Ok
returns-in-Ok g c =
    let cs = c.self.inside.held.value.cells.items in
    let ls = c.self.inside.held.value.lines in
    let new = c.args.lines.now in
    let cell : RowCell g.row.M.Denot = record { width = c.args.width; count = c.in_ok-count.count; marks = c.args.marks } in
    let pushed : RowContents g.row.T.Denot g.row.M.Denot → List (RowCell g.row.M.Denot) = λ h. h.cells.items ++ cell ∷ [] in
    let cells : c.push_reserved.new.self.items ≡ cs ++ cell ∷ [] =
    c.push_reserved.ensures.items ∙ ap pushed c.deref_mut-in-Ok.ensures.value ∙ ap pushed c.deref_mut-2.ensures.value
    ∙ ap (λ ds. ds ++ cell ∷ []) c.reserve.ensures.items ∙ ap pushed c.deref_mut.ensures.value in
    let appended : RowContents g.row.T.Denot g.row.M.Denot → List (Line g.row.T.Denot g.row.M.Denot) = λ h. h.lines ++ new in
    on_ok_weaker c.append-appended.result
    (λ e. ap (λ (h : RowContents g.row.T.Denot g.row.M.Denot). cells_of c.push_reserved.new.self.items h.lines) c.deref_mut-in-Ok.ensures.value
    ∙ ap (λ ds. cells_of ds c.append-appended.new.self) cells
    ∙ ap (λ (y : List (Line g.row.T.Denot g.row.M.Denot)). cells_of (cs ++ cell ∷ []) y)
    (e ∙ ap appended c.deref_mut-2.ensures.value ∙ ap appended c.deref_mut.ensures.value)
    ∙ cell-pushed cs ls new cell c.self.invariant c.in_ok-count.ensures
    ∙ ap (λ (y : List (KeptCell g.row.T.Denot g.row.M.Denot)). y ++ record { width = c.args.width; lines = new; marks = c.args.marks.items } ∷ [])
    c.self.view_is)
    c.append-appended.ensures

pub invariant_of-self-in-Ok : goal.invariant_of-self-in-Ok
invariant_of-self-in-Ok g c =
    let cs = c.self.inside.held.value.cells.items in
    let ls = c.self.inside.held.value.lines in
    let new = c.args.lines.now in
    let cell : RowCell g.row.M.Denot = record { width = c.args.width; count = c.in_ok-count.count; marks = c.args.marks } in
    let pushed : RowContents g.row.T.Denot g.row.M.Denot → List (RowCell g.row.M.Denot) = λ h. h.cells.items ++ cell ∷ [] in
    let cells : c.push_reserved.new.self.items ≡ cs ++ cell ∷ [] =
    c.push_reserved.ensures.items ∙ ap pushed c.deref_mut-in-Ok.ensures.value ∙ ap pushed c.deref_mut-2.ensures.value
    ∙ ap (λ ds. ds ++ cell ∷ []) c.reserve.ensures.items ∙ ap pushed c.deref_mut.ensures.value in
    let appended : RowContents g.row.T.Denot g.row.M.Denot → List (Line g.row.T.Denot g.row.M.Denot) = λ h. h.lines ++ new in
    let total : line_total c.push_reserved.new.self.items ≡ line_total cs + c.in_ok-count.count = ap (λ ds. line_total ds) cells ∙ total-end cs cell in
    let lines : length c.append-appended.new.self ≡ length ls + length new =
    ap (λ (y : List (Line g.row.T.Denot g.row.M.Denot)). length y)
    (c.in-Ok.ensures ∙ ap appended c.deref_mut-2.ensures.value ∙ ap appended c.deref_mut.ensures.value) ∙ length-append ls new in
    let kept = ap (λ (h : RowContents g.row.T.Denot g.row.M.Denot). length h.lines) c.deref_mut-in-Ok.ensures.value in
    omega (arith, total, lines, kept, c.self.invariant, c.in_ok-count.ensures)
