use Rattle.std.proofs.Common.{◌-◌, length}
use Rattle.html_render_layout_nodes.specs.Preorder.{forest_of}
use Rattle.html_render_layout_estimates.proofs.Onward.{Onward}
use Rattle.html_render_layout_estimates.proofs.whole_words.add_words.Given as goal

abbrev pub invariant-loop-at : goal.invariant-loop-at
invariant-loop-at l = Onward l.settings (forest_of l.fn.entries.items) l.nodes l.at

abbrev pub decreases-loop-at : goal.decreases-loop-at
decreases-loop-at l = length l.initial.nodes - l.at
