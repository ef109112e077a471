use Rattle.std.proofs.Common.{◌≡◌, ◌+◌, ◌^◌, ◌≤◌, ◌<◌, max, length}
use Rattle.html_render_layout_nodes.specs.Preorder.{flatten, forest_of}
use Rattle.html_render_layout_estimates.specs.TextSize.{saturated}
use Rattle.html_render_layout_estimates.specs.Children.{trees, greatest_least, total_size}
use Rattle.html_render_layout_estimates.proofs.estimate.children_of.Given as goal

abbrev pub invariant-loop-first : goal.invariant-loop-first
invariant-loop-first l = record {
  kept : flatten (forest_of l.rest) ≡ l.rest;
  count : l.count + trees (forest_of l.rest) ≡ trees (forest_of l.nodes);
  min_width : max l.min_width (greatest_least (forest_of l.rest)) ≡ greatest_least (forest_of l.nodes);
  small : l.preferred_width < 2 ^ 64;
  preferred_width : saturated (l.preferred_width + total_size (forest_of l.rest)) ≡ total_size (forest_of l.nodes);
  few : l.count + length l.rest ≤ length l.nodes;
}

abbrev pub decreases-loop-first : goal.decreases-loop-first
decreases-loop-first l = length l.rest
