use Rattle.std.proofs.Common.{◌≡◌, ◌++◌, drop}
use Rattle.html_render_layout_nodes.specs.Preorder.{flatten, forest_of}
use Rattle.html_render_layout_estimates.specs.CellSteps.{row_needs}
use Rattle.html_render_layout_estimates.proofs.cells.add_row.Given as goal

abbrev pub invariant-loop-cell : goal.invariant-loop-cell
invariant-loop-cell l = record {
  kept : flatten (forest_of l.rest) ≡ l.rest;
  needs : l.needs.items ++ row_needs (drop l.cell-index l.cells) (forest_of l.rest)
      ≡ l.fn.needs.items ++ row_needs l.cells (forest_of l.trees);
}
