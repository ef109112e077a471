use Rattle.html_render_layout_nodes.specs.Preorder.{forest_of}
use Rattle.html_render_layout_estimates.proofs.Again.{found}
use Rattle.html_render_layout_estimates.proofs.Backward.{Backward}
use Rattle.html_render_layout_estimates.proofs.estimate.measure_nodes.Given as goal

abbrev pub invariant-loop-at : goal.invariant-loop-at
invariant-loop-at g l =
    let by = found g.D.TextDecorator.decoration l.decorator l.settings l.with_sizes in
    Backward by by (forest_of l.fn.entries.items) l.entries.items l.entries.items l.at

abbrev pub decreases-loop-at : goal.decreases-loop-at
decreases-loop-at g l = l.at
