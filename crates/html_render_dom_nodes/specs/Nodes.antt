-- The nodes of a document by number, each with its content, its list of children and its parent.
use Rattle.std.specs.Prelude.{ℕ, List, [], map, slice_index_or, Option, None}
use Rattle.html_render_dom_nodes.specs.declared.nodes.Node.{Node as TheNode}
use Rattle.html_render_dom_nodes.specs.Content.{Content, content_of, document}

-- a node: its content, and its place in the forest
pub record Node : Type 0 where
  pub content : Content
  pub children : List ℕ
  pub parent : Option ℕ

-- a node without a parent or children
abbrev pub lone : Content → Node
lone c = record { content = c; children = []; parent = None }

-- the node with a number; past the last node, a document node without a parent or children
abbrev pub node_in : List Node → ℕ → Node
node_in nodes h = slice_index_or nodes h (lone document)

-- the value of a `Node`
abbrev pub node_of : TheNode → Node
node_of n = record { content = content_of n.data; children = n.children.items; parent = n.parent }

-- the values of the nodes of a vector
abbrev pub nodes_of : List TheNode → List Node
nodes_of = map node_of
