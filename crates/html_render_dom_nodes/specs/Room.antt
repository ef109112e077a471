-- The capacity of lists of children, which isn't part of a document's value.
use Rattle.std.specs.Prelude.{ℕ, List, slice_index_or}
use Rattle.smallvec.specs.SmallVec.{HasRoomFor}
use Rattle.html_render_dom_nodes.specs.declared.nodes.Node.{Node}

-- whether the list of a node has capacity for `more` more children
abbrev pub HasRoomForMore : List Node → (node more : ℕ) → Type 0
HasRoomForMore items node more = (other : Node) → HasRoomFor (slice_index_or items node other).children more

-- whether no list of children has less capacity in new than in old
abbrev pub KeepsRoom : (old new : List Node) → Type 0
KeepsRoom old new = (node more : ℕ) → HasRoomForMore old node more → HasRoomForMore new node more
