use Rattle.std.proofs.Common.{◌≡◌, ◌+◌, List, [], ◌∷◌, ◌++◌, length, refl, ap, ◌∙◌, arith}
use Rattle.html_render_layout_pictures.specs.declared.cells.RowCell.{RowCell}
use Rattle.html_render_layout_pictures.specs.declared.cells.RowContents.{RowContents}
use Rattle.html_render_layout_pictures.specs.Picture.{KeptCell}
use Rattle.html_render_layout_pictures.specs.RowCells.{cells_of, line_total}
use Rattle.html_render_layout_pictures.proofs.CellLines.{empty-pushed, total-end}
use Rattle.html_render_layout_pictures.proofs.cells.RowCells.push_empty.Goals as goal

pub returns : goal.returns
returns g c =
    let cs = c.self.inside.held.value.cells.items in
    let ls = c.self.inside.held.value.lines in
    let cell : RowCell g.row.M.Denot = record { width = c.args.width; count = 0; marks = c.new.result } in
    ap (λ (h : RowContents g.row.T.Denot g.row.M.Denot). cells_of c.push.new.self.items h.lines) c.deref_mut.ensures.value
    ∙ ap (λ ds. cells_of ds ls) (rw c.deref_mut.ensures.value at c.in_ok-push.ensures.items)
    ∙ empty-pushed cs ls cell c.self.invariant refl
    ∙ ap (λ ms. cells_of cs ls ++ record { width = c.args.width; lines = []; marks = ms } ∷ []) c.new.ensures.items
    ∙ ap (λ (y : List (KeptCell g.row.T.Denot g.row.M.Denot)). y ++ record { width = c.args.width; lines = []; marks = [] } ∷ []) c.self.view_is

pub invariant_of-self-2 : goal.invariant_of-self-2
invariant_of-self-2 g c =
    let cs = c.self.inside.held.value.cells.items in
    let cell : RowCell g.row.M.Denot = record { width = c.args.width; count = 0; marks = c.new.result } in
    let total : line_total c.push.new.self.items ≡ line_total cs + 0 = ap (λ ds. line_total ds) (rw c.deref_mut.ensures.value at c.in_ok-push.ensures.items) ∙ total-end cs cell in
    let kept = ap (λ (h : RowContents g.row.T.Denot g.row.M.Denot). length h.lines) c.deref_mut.ensures.value in
    omega (arith, total, kept, c.self.invariant)
