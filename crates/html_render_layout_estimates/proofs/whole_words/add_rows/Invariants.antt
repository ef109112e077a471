use Rattle.std.proofs.Common.{◌≡◌, ◌++◌, drop}
use Rattle.html_render_layout_nodes.specs.Preorder.{flatten, forest_of}
use Rattle.html_render_layout_estimates.specs.CellSteps.{cell_words}
use Rattle.html_render_layout_estimates.proofs.whole_words.add_rows.Given as goal

abbrev pub invariant-loop-at : goal.invariant-loop-at
invariant-loop-at l = record {
  kept : flatten (forest_of l.rest) ≡ l.rest;
  words : l.spans.items ++ cell_words (drop l.at l.rows) (forest_of l.rest)
      ≡ l.fn.spans.items ++ cell_words l.rows (forest_of l.shapes);
}
