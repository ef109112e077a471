use Rattle.std.proofs.Common.{◌≡◌, vec_len, drop}
use Rattle.html_render_dom_nodes.specs.Nodes.{nodes_of}
use Rattle.html_render_dom_nodes.specs.Moves.{with_parents}
use Rattle.html_render_dom_nodes.proofs.lists.set_parents.Given as goal

abbrev pub invariant-loop-child : goal.invariant-loop-child
invariant-loop-child l =
    (vec_len l.nodes ≡ vec_len l.initial.nodes) ×
    (with_parents (nodes_of l.nodes.items) (drop l.child-index l.children) l.parent
    ≡ with_parents (nodes_of l.initial.nodes.items) l.children l.parent)
