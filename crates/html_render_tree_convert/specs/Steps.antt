-- The conversion in one forward pass: what each event does to the open elements, the innermost first, and to the nodes that are written.
use Rattle.std.specs.Prelude.{ℕ, ◌+◌, Bool, true, false, not, ◌&&◌, ◌||◌, List, [], ◌∷◌, ◌++◌, drop, length, map, take, Option, Some, None}
use Rattle.std.specs.Prelude.{is_some, option_map, if◌then◌else◌}
use Rattle.html_render_dom_values.specs.Forest.{Forest}
use Rattle.html_render_dom_values.specs.Outcome.{◌>>=◌}
use Rattle.html_render_dom_styles.specs.Rules.{Rule as StyleRule}
use Rattle.html_render_dom_nodes.specs.Content.{Content}
use Rattle.html_render_layout_nodes.specs.Kinds.{holds_insertions}
use Rattle.html_render_layout_nodes.specs.RenderNodes.{unmeasured, without_style}
use Rattle.html_render_layout_nodes.specs.Tables.{unmeasured_table}
use Rattle.html_render_layout_nodes.specs.declared.tree.Entry.{Entry}
use Rattle.html_render_layout_nodes.specs.declared.tree.NodeKind.{NodeKind}
use Rattle.html_render_layout_nodes.specs.declared.tree.NodeKind.TheVariants.{Container, Block, FragmentStart, Table, TableRow, TableCell}
use Rattle.html_render_layout_nodes.specs.declared.tree.NodeStyle.{NodeStyle}
use Rattle.html_render_layout_nodes.specs.declared.tree.RenderNode.{RenderNode}
use Rattle.html_render_parts.specs.TableCells.{cell_grid_of}
use Rattle.html_render_tree_convert.specs.Conversion.{vanishes}
use Rattle.html_render_tree_convert.specs.Results.{Role, is_caption, cell_of, row_of, spans_of, stands_alone}
use Rattle.html_render_tree_convert.specs.Results as role
use Rattle.html_render_parts.specs.Spans.{greatest_width, spanned_in}
use Rattle.html_render_tree_convert.specs.declared.mapping.ElementKind.{ElementKind}
use Rattle.html_render_tree_convert.specs.declared.mapping.ElementKind.TheVariants as element
use Rattle.html_render_tree_convert.specs.declared.mapping.IfEmpty.TheVariants.{Stands, Vanishes}
use Rattle.html_render_tree_convert.specs.declared.tables.CellSpan.{CellSpan}
use Rattle.html_render_tree_convert.specs.declared.tables.Part.TheVariants as part
use Rattle.html_render_tree_convert.specs.Events.{Event, Put, Open as Opens, Parts, Close, events}
use Rattle.html_render_tree_convert.specs.Keeping.{counts_by, keeping_of, keeps_by}
use Rattle.html_render_tree_convert.specs.Held.{Entries, Held, Insertion, due_of, held_back, inserts, insertion_of, leaf, leaves, nothing, nothing_held}
use Rattle.html_render_tree_convert.specs.Held.{sized, with_kind, within}
use Rattle.html_render_tree_convert.specs.OpenElements.{OpenIn, State, created, innermost, outside, root}
use Rattle.html_render_tree_convert.specs.declared.elements.Open.{Open}
use Rattle.html_render_tree_convert.specs.declared.elements.OpenKind.{OpenKind}
use Rattle.html_render_tree_convert.specs.declared.elements.OpenKind.TheVariants as open_kind
use Rattle.html_render_tree_convert.specs.declared.kinds.Keeping.TheVariants.{Any}
use Rattle.html_render_tree_walk.specs.declared.cursor.Pick.TheVariants.{All}
use Rattle.html_render_tree_convert.specs.declared.plans.Element.{Element}

-- ---- an element opens

abbrev pub node_in : NodeStyle → NodeKind → RenderNode
node_in style kind = record { kind = kind; style = style; estimate = unmeasured }

abbrev pub is_table : OpenKind → Bool
is_table (open_kind.Parts spans) = true
is_table _ = false

abbrev pub is_rows : OpenKind → Bool
is_rows (open_kind.Rows rows) = true
is_rows _ = false

abbrev pub is_row : OpenKind → Bool
is_row (open_kind.Row cells) = true
is_row _ = false

abbrev pub is_captions : OpenKind → Bool
is_captions open_kind.Captions = true
is_captions _ = false

-- an element opens, with entries of its own
abbrev pub begun_with : Open → (own : Entries) → State → State
begun_with o own s = record { element = record o { start = length s.tree }; outer = s.element ∷ s.outer; tree = s.tree ++ own }

-- an element with a node opens, and nodes in front of its children are written
abbrev pub begun_over : Open → RenderNode → (front : List RenderNode) → State → State
begun_over o n front s = begun_with o (leaf n ∷ leaves front) s

-- an element that writes what it inserts in front of its children as it opens, and the rest as it closes
abbrev pub held : OpenKind → (has_children : Bool) → Element → Open
held kind has_children e = created kind (held_back e.texts.mark (insertion_of e).back) e.if_empty has_children

-- an element in a container that closes with it
abbrev pub wrapped : Open → Open
wrapped o = record o { is_wrapped = true }

-- a node that holds what it inserts, or else in a container that holds it
abbrev pub begun_node : (is_inside : Bool) → NodeKind → Element → State → State
begun_node true kind e s = begun_over (held (open_kind.Node (keeping_of kind)) (inserts e) e) (node_in e.style kind) (insertion_of e).front s
begun_node false kind e s =
    begun_over (wrapped (created (open_kind.Node (keeping_of kind)) nothing_held e.if_empty false)) (node_in e.style kind) []
    (begun_over (held (open_kind.Node Any) true e) (without_style Container) (insertion_of e).front s)

-- what is taken of an open element: its own insertion, or all that is due
abbrev pub taken_own : (is_taken : Bool) → Open → Insertion
taken_own is_taken p = if is_taken then p.due.own else nothing

abbrev pub taken : (is_taken : Bool) → Open → Insertion
taken is_taken p = if is_taken then due_of p.due else nothing

-- an open element once its own insertion is taken, or all that is due
abbrev pub without_own : Open → Open
without_own p = record p { due = record p.due { own = nothing } }

abbrev pub emptied : Open → Open
emptied p = record p { due = record nothing_held { mark = p.due.mark } }

-- a state whose innermost open element is changed, if something is taken
abbrev pub left : (is_taken : Bool) → (Open → Open) → State → State
left is_taken f s = if is_taken then record s { element = f s.element } else s

-- Rows in a table take what is due there, until they end without a row.
abbrev pub begun_rows : (in_table : Bool) → Element → State → State
begun_rows in_table e s =
    let due : Held = record { mark = e.texts.mark; own = insertion_of e; given = taken_own in_table s.element } in
    begun_with (created (open_kind.Rows []) due e.if_empty false) [] (left in_table without_own s)

-- A row in rows takes what is due there, for good.
abbrev pub begun_row : (in_rows : Bool) → Element → State → State
begun_row in_rows e s =
    let due : Held = record { mark = e.texts.mark; own = within (taken in_rows s.element) (insertion_of e); given = nothing } in
    begun_over (created (open_kind.Row []) due Stands false) (node_in e.style TableRow) [] (left in_rows emptied s)

-- A cell in a row holds what is due there.
abbrev pub begun_cell : CellSpan → (in_row : Bool) → Element → State → State
begun_cell span in_row e s =
    let i = within (taken in_row s.element) (insertion_of e) in
    begun_over (created (open_kind.Cell span) (held_back e.texts.mark i.back) Stands (inserts e)) (node_in e.style TableCell) i.front (left in_row emptied s)

-- kind of a caption's node
abbrev pub caption_kind : (in_captions : Bool) → NodeKind
caption_kind in_captions = if in_captions then Block else Container

-- an element opens
abbrev pub begun : ElementKind → Element → State → State
begun (element.Node kind) e s = begun_node (not (inserts e) || holds_insertions kind) kind e s
begun (element.Part part.Table) e s = begun_over (held open_kind.Captions true e) (node_in e.style Container) (insertion_of e).front s
begun (element.Part part.Body) e s = begun_rows (is_table s.element.kind) e s
begun (element.Part part.Row) e s = begun_row (is_rows s.element.kind) e s
begun (element.Part (part.Cell span)) e s = begun_cell span (is_row s.element.kind) e s
begun (element.Part part.Caption) e s =
    begun_over (held open_kind.Caption (inserts e) e) (node_in e.style (caption_kind (is_captions s.element.kind))) (insertion_of e).front s

unfoldable pub opened : Element → State → State
opened e s = begun e.kind e s

-- ---- the captions of a table have come

-- the table's own node opens in a container
abbrev pub begun_parts : State → State
begun_parts s = begun_over (wrapped (created (open_kind.Parts []) nothing_held Vanishes false)) (without_style Container) [] s

-- the nodes of an open element's children, if they have no children
abbrev pub nodes_inside : Open → Entries → List RenderNode
nodes_inside p tree = map (λ (e : Entry RenderNode). e.node) (drop (p.start + 1) tree)

-- a table without a caption: what is written in it is due in the first cell
abbrev pub without_captions : OpenIn → OpenIn
without_captions p = record {
  element = record p.element {
    kind = open_kind.Parts [];
    due = record p.element.due { own = record { front = nodes_inside p.element p.tree; back = p.element.due.own.back } };
  };
  tree = take (p.element.start + 1) p.tree;
}

-- With a caption the container stays, and the table opens in it. Without one the container becomes the table.
abbrev pub parted : OpenIn → List Open → State
parted p ps =
    if p.element.has_results then begun_parts (outside ps (record p { element = record p.element { kind = open_kind.Node Any } }))
    else outside ps (without_captions p)

-- ---- an element closes

-- what closes: its role for a table, the kind of its node, whether it has children, whether a part of a table is among them that is
-- in no table, and its entries
pub record Closed : Type 0 where
  pub role : Role
  pub kind : NodeKind
  pub has_children : Bool
  pub is_stray : Bool
  pub entries : Entries

-- a node without children
abbrev pub closed_leaf : RenderNode → Closed
closed_leaf n = record { role = role.Contents; kind = n.kind; has_children = false; is_stray = false; entries = leaf n ∷ [] }

-- a node that closes over its children, whose entries follow its own
abbrev pub closed_node : Role → (has_children is_stray : Bool) → Entries → Option Closed
closed_node r has_children is_stray [] = None
closed_node r has_children is_stray (e ∷ es) =
    Some (record { role = r; kind = e.node.kind; has_children = has_children; is_stray = is_stray; entries = sized (e ∷ es) })

-- role of what an open element of a kind becomes
abbrev pub role_left : OpenKind → Role
role_left (open_kind.Rows rows) = role.Rows rows
role_left (open_kind.Row cells) = role.Row cells
role_left (open_kind.Cell span) = role.Cell span
role_left open_kind.Caption = role.Caption
role_left _ = role.Contents

-- whether an element writes what is due after its children
abbrev pub is_completed : OpenKind → Bool
is_completed (open_kind.Parts spans) = false
is_completed (open_kind.Rows rows) = false
is_completed (open_kind.Row cells) = false
is_completed _ = true

-- entries of an open element with a node, with what is due after its children
abbrev pub with_back : (back : List RenderNode) → Entries → Entries
with_back back [] = []
with_back back (e ∷ es) = e ∷ (es ++ leaves back)

abbrev pub completed : OpenKind → (back : List RenderNode) → Entries → Entries
completed kind back own = if is_completed kind then with_back back own else own

-- an open element of a kind as it closes, unless it vanishes
abbrev pub closed_as : OpenKind → Open → (own : Entries) → Option Closed
closed_as (open_kind.Rows rows) p own =
    Some (record { role = role.Rows rows; kind = Container; has_children = p.has_children; is_stray = p.is_stray; entries = own })
closed_as kind p own = closed_node (role_left kind) (is_table kind || p.has_children) p.is_stray (completed kind p.due.own.back own)

-- what an element leaves that vanishes: its mark
abbrev pub mark_left : (mark : Option (List ℕ)) → Option Closed
mark_left mark = option_map (λ name. closed_leaf (without_style (FragmentStart name))) mark

abbrev pub unless_vanished : Open → Option Closed → Option Closed
unless_vanished p c = if vanishes p.if_empty p.has_results then mark_left p.due.mark else c

-- entries of an element once its table is on its grid; none if it is a table without a grid
abbrev pub on_grid : OpenKind → Entries → Option Entries
on_grid (open_kind.Parts spans) own = option_map (λ grid. with_kind (Table grid) own) (option_map unmeasured_table (cell_grid_of spans))
on_grid _ own = Some own

-- WHAT AN ELEMENT LEAVES that closes, if anything; none if it is a table without a grid
abbrev pub left_by : Open → (own : Entries) → Option (Option Closed)
left_by p own = option_map (λ es. unless_vanished p (closed_as p.kind p es)) (on_grid p.kind own)

-- ---- an open element receives a result

-- whether a result is that of rows
abbrev pub are_rows : Role → Bool
are_rows r = is_some (spans_of r)

-- whether a result is kept
abbrev pub accepts : OpenKind → Role → NodeKind → Bool
accepts (open_kind.Node keeping) r kind = keeps_by keeping kind
accepts open_kind.Captions r kind = is_caption r
accepts (open_kind.Parts spans) r kind = are_rows r
accepts (open_kind.Rows rows) r kind = is_some (row_of r)
accepts (open_kind.Row cells) r kind = is_some (cell_of r)
accepts _ r kind = true

-- whether a result counts
abbrev pub counts_in : OpenKind → Role → NodeKind → (has_children : Bool) → Bool
counts_in (open_kind.Node keeping) r kind has_children = counts_by keeping r kind has_children
counts_in open_kind.Captions r kind has_children = is_caption r
counts_in (open_kind.Parts spans) r kind has_children = has_children && are_rows r
counts_in _ r kind has_children = true

-- whether a result that is kept is in its place
abbrev pub has_place : OpenKind → Role → Bool
has_place (open_kind.Parts spans) r = true
has_place (open_kind.Rows rows) r = true
has_place (open_kind.Row cells) r = true
has_place _ r = stands_alone r

-- spans and cells of a table, of rows and of a row, with those of a result
abbrev pub gathered : OpenKind → Role → OpenKind
gathered (open_kind.Parts spans) (role.Rows rows) = open_kind.Parts (spans ++ spanned_in (greatest_width rows) rows)
gathered (open_kind.Rows rows) (role.Row cells) = open_kind.Rows (rows ++ cells ∷ [])
gathered (open_kind.Row cells) (role.Cell span) = open_kind.Row (cells ++ (record { colspan = span.colspan; rowspan = span.rowspan }) ∷ [])
gathered kind _ = kind

abbrev pub with_child : Role → (is_stray : Bool) → Open → Open
with_child r is_stray p = record p {
  kind = gathered p.kind r;
  has_children = true;
  is_stray = p.is_stray || (is_stray || not (has_place p.kind r));
}

-- an open element once a result has come
abbrev pub received : Role → NodeKind → (has_children is_stray : Bool) → Open → Open
received r kind has_children is_stray p =
    let counted = record p { has_results = p.has_results || counts_in p.kind r kind has_children } in
    if accepts p.kind r kind then with_child r is_stray counted else counted

-- an open element and the nodes that are written once a result has come: if it is kept, its entries are written
abbrev pub come : Option Closed → OpenIn → OpenIn
come None p = p
come (Some c) p = record {
  element = received c.role c.kind c.has_children c.is_stray p.element;
  tree = if accepts p.element.kind c.role c.kind then p.tree ++ c.entries else p.tree;
}

-- a table gets the insertion back of a part that has no row
abbrev pub given_back : (o parent : Open) → Open
given_back o parent = if is_rows o.kind && is_table parent.kind then record parent { due = record parent.due { own = o.due.given } } else parent

-- an open element once another closes in it
abbrev pub closed_in : Open → OpenIn → Option OpenIn
closed_in o p =
    option_map (λ c. come c (record { element = given_back o p.element; tree = take o.start p.tree })) (left_by o (drop o.start p.tree))

-- ---- events

-- a node without children is written in the innermost open element
abbrev pub put : RenderNode → State → State
put n s = outside s.outer (come (Some (closed_leaf n)) (innermost s))

abbrev pub all_parted : State → State
all_parted s = if is_captions s.element.kind then parted (innermost s) s.outer else s

-- an element closes in the innermost of those outside it, if there is one
abbrev pub closed_outside : List Open → OpenIn → Option State
closed_outside [] p = Some (outside [] p)
closed_outside (parent ∷ ps) p = option_map (outside ps) (closed_in p.element (record p { element = parent }))

-- the innermost element closes, unless it is the outermost
abbrev pub closed_once : State → Option State
closed_once s = closed_outside s.outer (innermost s)

-- the innermost element closes, and a container round it
abbrev pub closed : State → Option State
closed s = if s.element.is_wrapped then closed_once s >>= closed_once else closed_once s

abbrev pub after : Event → State → Option State
after (Put n) s = Some (put n s)
after (Opens e) s = Some (opened e s)
after Parts s = Some (all_parted s)
after Close s = closed s

-- the state after these events; none if a table has no grid
abbrev pub run : List Event → State → Option State
run [] s = Some s
run (e ∷ es) s = after e s >>= run es

-- the nodes that are written; none if a part of a table is in none
abbrev pub all_written : State → Option Entries
all_written s = if s.element.is_stray then None else Some s.tree

-- THE NODES of a document, in pre-order; none if a table has no grid, or a part of a table is in none
abbrev pub converted : List StyleRule → Forest Content → Option Entries
converted rules t = run (events rules t All) root >>= all_written
