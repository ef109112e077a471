use Rattle.std.proofs.Common.{◌≡◌, ◌++◌, drop}
use Rattle.html_render_layout_nodes.specs.Preorder.{flatten, forest_of}
use Rattle.html_render_layout_estimates.specs.CellSteps.{row_words}
use Rattle.html_render_layout_estimates.proofs.whole_words.add_row.Given as goal

abbrev pub invariant-loop-cell : goal.invariant-loop-cell
invariant-loop-cell l = record {
  kept : flatten (forest_of l.rest) ≡ l.rest;
  words : l.spans.items ++ row_words (drop l.cell-index l.cells) (forest_of l.rest)
      ≡ l.fn.spans.items ++ row_words l.cells (forest_of l.shapes);
}
