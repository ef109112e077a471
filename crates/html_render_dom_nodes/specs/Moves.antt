-- The nodes after each move between lists of children.
use Rattle.std.specs.Prelude.{◌==◌, ℕ, not, if◌then◌else◌, List, [], ◌∷◌, ◌++◌, length, filter, Option, Some, None}
use Rattle.html_render_dom_nodes.specs.Content.{text}
use Rattle.html_render_dom_nodes.specs.Nodes.{Node, node_in}
use Rattle.html_render_dom_nodes.specs.Edits.{with_content, with_children, with_parent, created, joined, text_node}

-- a list without the node h
abbrev pub without : ℕ → List ℕ → List ℕ
without h hs = filter (λ x. not (x == h)) hs

-- a list with the child directly before the first occurrence of the sibling; unchanged without the sibling
abbrev pub before : (sibling child : ℕ) → List ℕ → List ℕ
before sibling child [] = []
before sibling child (x ∷ xs) = if x == sibling then child ∷ (x ∷ xs) else (x ∷ before sibling child xs)

-- the member directly before the sibling, where `last` precedes the list
abbrev pub previous : (sibling : ℕ) → Option ℕ → List ℕ → Option ℕ
previous sibling last [] = None
previous sibling last (x ∷ xs) = if x == sibling then last else previous sibling (Some x) xs

-- the nodes with the child removed from its parent's list, and without a parent
abbrev pub taken_out : List Node → (parent : Option ℕ) → (child : ℕ) → List Node
taken_out nodes None child = nodes
taken_out nodes (Some parent) child = with_parent (with_children nodes parent (without child (node_in nodes parent).children)) child None

-- the nodes with the child inserted directly before the sibling in the parent's list, and that parent set
abbrev pub inserted_before : List Node → (parent sibling child : ℕ) → List Node
inserted_before nodes parent sibling child =
    with_parent (with_children nodes parent (before sibling child (node_in nodes parent).children)) child (Some parent)

-- the nodes with a text joined to the text node `last`, or without one in a new text node directly before the sibling
abbrev pub text_placed : List Node → (parent sibling : ℕ) → (last : Option ℕ) → List ℕ → List Node
text_placed nodes parent sibling (Some last) more = with_content nodes last (joined (node_in nodes last).content more)
text_placed nodes parent sibling None more = inserted_before (created nodes (text more)) parent sibling (length nodes)

-- the node directly before the sibling in the parent's list if it is a text node, otherwise none
abbrev pub text_before : List Node → (parent sibling : ℕ) → Option ℕ
text_before nodes parent sibling = text_node nodes (previous sibling None (node_in nodes parent).children)

-- the nodes with the parent of each of the children set
abbrev pub with_parents : List Node → (children : List ℕ) → (parent : ℕ) → List Node
with_parents nodes [] parent = nodes
with_parents nodes (c ∷ cs) parent = with_parents (with_parent nodes c (Some parent)) cs parent

-- the nodes with all children of `from`, in order, moved to the end of the children of `to`
abbrev pub reparented : List Node → (from to : ℕ) → List Node
reparented nodes from to =
    let moved = (node_in nodes from).children in
    let cleared = with_children nodes from [] in
    with_parents (with_children cleared to ((node_in cleared to).children ++ moved)) moved to
