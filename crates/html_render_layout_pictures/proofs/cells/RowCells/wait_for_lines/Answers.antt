use Rattle.std.proofs.Common.{◌≤◌, ◌++◌, length, ap, ◌∙◌, arith}
use Rattle.std.specs.List.{flat_map}
use Rattle.std.proofs.lemmas.List.{take_all}
use Rattle.html_render_layout_pictures.specs.Picture as definition
use Rattle.html_render_layout_pictures.proofs.CellLines.{own_waiting, all-waiting}
use Rattle.html_render_layout_pictures.proofs.cells.RowCells.wait_for_lines.Goals as goal

pub returns : goal.returns
returns g c =
    let cells = c.self.inside.held.value.cells.items in
    let passed : length c.as_slice-cells.result.now ≤ c.loop-cell.cell-index = omega (arith, c.loop-cell-test.false) in
    c.loop-cell.invariant
    ∙ ap (λ ms. c.args.waiting.now.items ++ ms)
    (ap (λ ds. flat_map own_waiting ds) (take_all c.loop-cell.cell-index c.as_slice-cells.result.now passed ∙ rw c.deref.ensures at c.as_slice-cells.ensures.value)
    ∙ all-waiting cells c.self.inside.held.value.lines c.self.invariant
    ∙ ap (λ ds. definition.waiting_in ds) c.self.view_is)
