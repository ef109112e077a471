use Rattle.std.proofs.Common.{◌≡◌, map}
use Rattle.html_render_layout_nodes.specs.declared.tree.Entry.{Entry}
use Rattle.html_render_layout_nodes.specs.declared.tree.RenderNode.{RenderNode}
use Rattle.html_render_tree_convert.proofs.builder.nodes_of.Given as goal

-- the nodes so far
abbrev pub invariant-loop-entry : goal.invariant-loop-entry
invariant-loop-entry l = l.nodes.items ≡ map (λ (e : Entry RenderNode). e.node) l.yielded
