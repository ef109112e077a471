use Rattle.html_render_layout_nodes.specs.Preorder.{forest_of}
use Rattle.html_render_layout_estimates.specs.WordSteps.{node_shape, worded_node}
use Rattle.html_render_layout_estimates.proofs.Backward.{Backward}
use Rattle.html_render_layout_estimates.proofs.whole_words.add_tree_words.Given as goal

abbrev pub invariant-loop-at : goal.invariant-loop-at
invariant-loop-at l =
    Backward worded_node (λ n below. node_shape l.settings (worded_node n below) below) (forest_of l.fn.tree) l.tree l.shapes.items l.at

abbrev pub decreases-loop-at : goal.decreases-loop-at
decreases-loop-at l = l.at
