use Rattle.std.proofs.Common.{◌++◌, drop, sym, ap, ◌∙◌, append-nil}
use Rattle.html_render_layout_estimates.specs.CellSteps.{row_needs}
use Rattle.html_render_layout_estimates.proofs.NeedsOfCells.{row_without}
use Rattle.html_render_layout_estimates.proofs.cells.add_row.Goals as goal

pub returns-in_default : goal.returns-in_default
returns-in_default c =
    let items = c.loop-cell.needs.items in
    let left = drop c.loop-cell.cell-index c.args.cells.now in
    sym (append-nil items) ∙ ap (λ l. items ++ l) (sym (row_without left))
    ∙ ap (λ t. items ++ row_needs left t) (sym c.in_default.ensures.cases) ∙ c.loop-cell.invariant.needs
