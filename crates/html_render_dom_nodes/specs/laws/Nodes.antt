-- Reading a node of the vector.
use Rattle.std.specs.Prelude.{◌≡◌, ℕ, ◌<◌, List, length, map, slice_index_or}
use Rattle.std.proofs.Common.{sym, ap, ◌∙◌}
use Rattle.std.proofs.lemmas.List.{get_or-map}
use Rattle.html_render_dom_nodes.specs.declared.nodes.Node.{Node as TheNode}
use Rattle.html_render_dom_nodes.specs.Content.{document}
use Rattle.html_render_dom_nodes.specs.Nodes.{lone, node_in, node_of}

-- the value of a node that was read is the node with that number
pub node_in-map : (items : List TheNode) (i : ℕ) (n : TheNode) → i < length items → n ≡ slice_index_or items i n → node_in (map node_of items) i ≡ node_of n
node_in-map items i n h e = get_or-map node_of items i n (lone document) h ∙ ap node_of (sym e)
