use Rattle.std.proofs.Common.{◌++◌, sym, ap, ◌∙◌, subst}
use Rattle.html_render_parts_widths.specs.Spans.{AreOver}
use Rattle.html_render_parts.specs.TableCells.{columns_of}
use Rattle.html_render_layout_nodes.specs.Preorder.{forest_of}
use Rattle.html_render_layout_estimates.specs.CellSteps.{cell_words}
use Rattle.html_render_layout_estimates.proofs.WordSpans.{cells_over}
use Rattle.html_render_layout_estimates.proofs.whole_words.cell_words.Goals as goal

pub returns-clause-over : goal.returns-clause-over
returns-clause-over c =
    let trees = forest_of c.args.rows.now in
    let is = c.in_ok-add_rows.ensures ∙ ap (λ l. l ++ cell_words c.rows.result.now trees) c.new-spans.ensures.items
    ∙ ap (λ rows. cell_words rows trees) c.rows.ensures.rows in
    subst (AreOver (columns_of c.args.grid.now)) (sym is) (cells_over (columns_of c.args.grid.now) c.args.grid.now.rows trees c.rows.ensures.on_columns)
