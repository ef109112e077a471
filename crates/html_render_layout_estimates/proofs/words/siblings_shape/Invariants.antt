use Rattle.std.proofs.Common.{◌≡◌, length}
use Rattle.html_render_layout_nodes.specs.Preorder.{flatten, forest_of}
use Rattle.html_render_layout_estimates.specs.Words.{siblings_after, siblings_shape}
use Rattle.html_render_layout_estimates.proofs.words.siblings_shape.Given as goal

abbrev pub invariant-loop-first : goal.invariant-loop-first
invariant-loop-first l = record {
  kept : flatten (forest_of l.rest) ≡ l.rest;
  shape : siblings_after l.shape (forest_of l.rest) ≡ siblings_shape (forest_of l.trees);
}

abbrev pub decreases-loop-first : goal.decreases-loop-first
decreases-loop-first l = length l.rest
