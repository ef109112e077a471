use Rattle.std.proofs.Common.{◌≡◌, ◌++◌, drop}
use Rattle.html_render_layout_nodes.specs.Preorder.{flatten, forest_of}
use Rattle.html_render_layout_estimates.specs.Cells.{cell_needs}
use Rattle.html_render_layout_estimates.proofs.cells.add_rows.Given as goal

abbrev pub invariant-loop-at : goal.invariant-loop-at
invariant-loop-at l = record {
  kept : flatten (forest_of l.rest) ≡ l.rest;
  needs : l.needs.items ++ cell_needs (drop l.at l.rows) (forest_of l.rest)
      ≡ l.fn.needs.items ++ cell_needs l.rows (forest_of l.trees);
}
