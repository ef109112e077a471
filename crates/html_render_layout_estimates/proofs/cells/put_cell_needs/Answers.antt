use Rattle.std.proofs.Common.{◌++◌, sym, ap, ◌∙◌, subst}
use Rattle.html_render_parts_widths.specs.Needs.{AreCells}
use Rattle.html_render_parts.specs.TableCells.{columns_of}
use Rattle.html_render_layout_nodes.specs.Preorder.{forest_of}
use Rattle.html_render_layout_estimates.specs.Cells.{cell_needs}
use Rattle.html_render_layout_estimates.proofs.NeedsOfCells.{cells_are}
use Rattle.html_render_layout_estimates.proofs.cells.put_cell_needs.Goals as goal

pub returns-clause-cells : goal.returns-clause-cells
returns-clause-cells c =
    let trees = forest_of c.args.rows.now in
    let is = c.in_ok-add_rows.ensures ∙ ap (λ l. l ++ cell_needs c.rows-cells.result.now trees) (c.in_ok-reserve_exact.ensures.items ∙ c.clear.ensures.items)
    ∙ ap (λ rows. cell_needs rows trees) c.rows-cells.ensures.rows in
    subst (AreCells (columns_of c.args.grid.now)) (sym is) (cells_are (columns_of c.args.grid.now) c.args.grid.now.rows trees c.rows-cells.ensures.on_columns)
