-- The dump of a render tree: one line for each node, a node before its children.
use Rattle.std.specs.Prelude.{ℕ, ◌+◌, List, [], ◌∷◌, ◌++◌, replicate}
use Rattle.html_render_dom_values.specs.Forest.{Forest, none, node}
use Rattle.html_render_layout_nodes.specs.declared.tree.RenderNode.{RenderNode}
use Rattle.html_render_layout_nodes.specs.Kinds.{kind_name}

-- a line: the depth in spaces, a name and a line feed
abbrev pub tree_line : (depth : ℕ) → (name : List ℕ) → List ℕ
tree_line depth name = replicate depth 32 ++ (name ++ 10 ∷ [])

-- the lines of a forest whose roots have this depth
abbrev pub tree_dump : (depth : ℕ) → Forest RenderNode → List ℕ
tree_dump depth none = []
tree_dump depth (node n children beside) = tree_line depth (kind_name n.kind) ++ (tree_dump (depth + 1) children ++ tree_dump depth beside)
