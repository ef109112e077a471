use Rattle.std.proofs.Common.{◌++◌, drop, sym, ap, ◌∙◌, append-nil}
use Rattle.html_render_layout_estimates.specs.Cells.{cell_needs}
use Rattle.html_render_layout_estimates.proofs.NeedsOfCells.{rows_without}
use Rattle.html_render_layout_estimates.proofs.cells.add_rows.Goals as goal

pub returns-in_default : goal.returns-in_default
returns-in_default c =
    let items = c.loop-at.needs.items in
    let left = drop c.loop-at.at c.args.rows.now in
    sym (append-nil items) ∙ ap (λ l. items ++ l) (sym (rows_without left))
    ∙ ap (λ t. items ++ cell_needs left t) (sym c.in_default.ensures.cases) ∙ c.loop-at.invariant.needs
