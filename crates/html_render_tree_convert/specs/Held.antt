-- Nodes in pre-order, and what an open element has still to write.
use Rattle.std.specs.Prelude.{ℕ, ◌+◌, Bool, List, [], ◌∷◌, ◌++◌, length, map, Option, Some, None}
use Rattle.html_render_dom_values.specs.Forest.{Forest}
use Rattle.html_render_layout_nodes.specs.declared.tree.Entry.{Entry}
use Rattle.html_render_layout_nodes.specs.declared.tree.NodeKind.{NodeKind}
use Rattle.html_render_layout_nodes.specs.declared.tree.NodeKind.TheVariants.{FragmentStart, Text}
use Rattle.html_render_layout_nodes.specs.declared.tree.RenderNode.{RenderNode}
pub use Rattle.html_render_tree_convert.specs.Plans.{text_nodes}
use Rattle.html_render_tree_convert.specs.ElementTexts.{has_any}
use Rattle.html_render_tree_convert.specs.Results.{Result, alone}
use Rattle.html_render_tree_convert.specs.declared.plans.Element.{Element}
use Rattle.html_render_tree_convert.specs.declared.due.DueParts.{DueParts}
use Rattle.html_render_tree_convert.specs.declared.due.InsertedNodes.{InsertedNodes}

-- ---- entries

abbrev pub Nodes : Type 0
Nodes = Forest RenderNode

-- nodes in pre-order
abbrev pub Entries : Type 0
Entries = List (Entry RenderNode)

abbrev pub leaf : RenderNode → Entry RenderNode
leaf n = record { node = n; subtree_len = 1 }

abbrev pub leaves : List RenderNode → Entries
leaves nodes = map (λ n. record { node = n; subtree_len = 1 }) nodes

-- a closed node has the size of its subtree
abbrev pub sized : Entries → Entries
sized [] = []
sized (e ∷ es) = record e { subtree_len = length es + 1 } ∷ es

-- the first entry with a node of another kind
abbrev pub with_kind : NodeKind → Entries → Entries
with_kind k [] = []
with_kind k (e ∷ es) = record e { node = record e.node { kind = k } } ∷ es

-- ---- what an element inserts

-- nodes without children that are inserted in front of an element's children and after them
pub record Insertion : Type 0 where
  pub front : List RenderNode
  pub back : List RenderNode

abbrev pub inserts : Element → Bool
inserts e = has_any e.texts

-- what an element inserts: its mark and the content before its children, and the content after them
abbrev pub insertion_of : Element → Insertion
insertion_of e = record { front = text_nodes FragmentStart e.texts.mark ++ text_nodes Text e.texts.before; back = text_nodes Text e.texts.after }

abbrev pub all_alone : List RenderNode → List Result
all_alone = map alone

-- ---- what an open element has still to write

abbrev pub nothing : Insertion
nothing = record { front = []; back = [] }

-- an inner insertion within an outer one
abbrev pub within : (outer inner : Insertion) → Insertion
within outer inner = record { front = outer.front ++ inner.front; back = inner.back ++ outer.back }

abbrev pub insertion_in : InsertedNodes → Insertion
insertion_in i = record { front = i.front.items; back = i.back.items }

-- What an open element has still to write:
-- * mark: the mark that it leaves if it vanishes;
-- * own: of a table, of its rows and of a row what is inserted into the first cell, of any other element what comes after its
--   children;
-- * given: of rows the insertion of their table, which gets it back if no row comes.
pub record Held : Type 0 where
  pub mark : Option (List ℕ)
  pub own : Insertion
  pub given : Insertion

abbrev pub nothing_held : Held
nothing_held = record { mark = None; own = nothing; given = nothing }

abbrev pub held_in : Option DueParts → Held
held_in None = nothing_held
held_in (Some d) = record {
  mark = d.mark;
  own = record { front = d.own.front.items; back = text_nodes Text d.after ++ d.own.back.items };
  given = insertion_in d.given;
}

-- what is due: what is given, with the element's own within it
abbrev pub due_of : Held → Insertion
due_of d = within d.given d.own

-- the mark of an element that writes the rest of its insertion after its children
abbrev pub held_back : (mark : Option (List ℕ)) → (back : List RenderNode) → Held
held_back mark back = record nothing_held { mark = mark; own = record { front = []; back = back } }
