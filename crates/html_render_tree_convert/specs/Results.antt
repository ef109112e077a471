-- THE DEFINITION of the conversion: what the nodes of a document become, by recursion on the document.
use Rattle.std.specs.Prelude.{ℕ, zero, suc, ◌==◌, Bool, true, false, not, ◌&&◌, ◌||◌, List, [], ◌∷◌, ◌++◌, filter, flat_map, map, Option, Some}
use Rattle.std.specs.Prelude.{None, is_some, option_map, option_to_list, unwrap_or, if◌then◌else◌}
use Rattle.std.specs.List.{list_any}
use Rattle.html_render_dom_values.specs.Forest.{Forest, none, node, followed_by}
use Rattle.html_render_dom_values.specs.Outcome.{◌>>=◌}
use Rattle.html_render_dom_nodes.specs.Content.{Content}
use Rattle.html_render_dom.specs.Dom.{Dom, tree_of}
use Rattle.html_render_dom_styles.specs.Rules.{Rule as StyleRule}
use Rattle.html_render_dom_styles.specs.Selectors.{is_filled}
use Rattle.html_render_parts.specs.TableCells.{cell_grid_of}
use Rattle.html_render_parts.specs.declared.table.Span.{Span}
use Rattle.html_render_layout_nodes.specs.declared.tree.NodeKind.{NodeKind}
use Rattle.html_render_layout_nodes.specs.declared.tree.NodeKind.TheVariants.{Text, Container, Block, Ol, ListItem, Dl, Dt, Dd, Link}
use Rattle.html_render_layout_nodes.specs.declared.tree.NodeKind.TheVariants.{Image, Svg, FragmentStart, Table, TableRow, TableCell}
use Rattle.html_render_layout_nodes.specs.declared.tree.NodeStyle.{NodeStyle}
use Rattle.html_render_layout_nodes.specs.declared.tree.RenderNode.{RenderNode}
use Rattle.html_render_layout_nodes.specs.Kinds.{holds_insertions}
use Rattle.html_render_layout_nodes.specs.RenderNodes.{unmeasured, no_style, without_style}
use Rattle.html_render_layout_nodes.specs.Tables.{TableParts, unmeasured_table}
use Rattle.html_render_tree_walk.specs.Walk.{picks}
use Rattle.html_render_tree_walk.specs.declared.cursor.Pick.{Pick}
use Rattle.html_render_tree_walk.specs.declared.cursor.Pick.TheVariants.{All, Captions, Others, Feet}
pub use Rattle.html_render_tree_convert.specs.declared.elements.Role.{Role}
pub use Rattle.html_render_tree_convert.specs.declared.elements.Role.TheVariants.{Contents, Caption, Rows, Row, Cell}
use Rattle.html_render_tree_convert.specs.declared.mapping.ElementKind.{ElementKind}
use Rattle.html_render_tree_convert.specs.declared.mapping.ElementKind.TheVariants.{Node, Part}
use Rattle.html_render_tree_convert.specs.declared.mapping.IfEmpty.{IfEmpty}
use Rattle.html_render_tree_convert.specs.declared.plans.Element.{Element}
use Rattle.html_render_tree_convert.specs.declared.plans.Plan.{Plan}
use Rattle.html_render_tree_convert.specs.declared.plans.Plan.TheVariants as plan
use Rattle.html_render_tree_convert.specs.declared.tables.Part.TheVariants as part
use Rattle.html_render_tree_convert.specs.Conversion.{is_blank, vanishes}
use Rattle.html_render_tree_convert.specs.ElementTexts.{has_any}
use Rattle.html_render_tree_convert.specs.Plans.{plan_of, text_nodes}
use Rattle.html_render_parts.specs.Spans.{greatest_width, spanned_in}

-- ---- results

-- WHAT A NODE of a document became: its role, its node (that of rows counts for nothing), whether there is anything below, whether
-- a part of a table is below that is in no table, and the nodes below
pub record Result : Type 0 where
  pub role : Role
  pub node : RenderNode
  pub has_children : Bool
  pub is_stray : Bool
  pub below : Forest RenderNode

-- the nodes of a result: of rows those below, of any other its node over those below
abbrev pub nodes_of : Role → RenderNode → (below : Forest RenderNode) → Forest RenderNode
nodes_of (Rows rows) n below = below
nodes_of _ n below = node n below none

-- the nodes of results, one after another
abbrev pub beside : List Result → Forest RenderNode
beside [] = none
beside (r ∷ rs) = followed_by (nodes_of r.role r.node r.below) (beside rs)

abbrev pub is_caption : Role → Bool
is_caption Caption = true
is_caption _ = false

-- the span that a cell asks for, where 0 columns are those that its row has left
abbrev pub cell_of : Role → Option Span
cell_of (Cell span) = Some (record { colspan = span.colspan; rowspan = span.rowspan })
cell_of _ = None

-- and the cells of a row
abbrev pub row_of : Role → Option (List Span)
row_of (Row cells) = Some cells
row_of _ = None

-- and what the cells of rows span
abbrev pub spans_of : Role → Option (List (List Span))
spans_of (Rows rows) = Some (spanned_in (greatest_width rows) rows)
spans_of _ = None

-- whether a result may be in no table: it is no cell, no row and no rows; a caption is a container there
abbrev pub stands_alone : Role → Bool
stands_alone role = not (is_some (cell_of role) || is_some (row_of role) || is_some (spans_of role))

abbrev pub of_role : (Role → Bool) → List Result → List Result
of_role is results = filter (λ r. is r.role) results

-- whether a part of a table that is in no table is below one of these
abbrev pub any_stray : List Result → Bool
any_stray results = list_any (λ r. r.is_stray) results

-- or is one of these, which are in no table
abbrev pub has_stray : List Result → Bool
has_stray results = list_any (λ r. r.is_stray || not (stands_alone r.role)) results

-- ---- nodes over results

abbrev pub over : NodeStyle → NodeKind → List Result → Result
over style kind results =
    let n : RenderNode = record { kind = kind; style = style; estimate = unmeasured } in
    record { role = Contents; node = n; has_children = is_filled results; is_stray = has_stray results; below = beside results }

-- ---- tables

-- a table over these parts
abbrev pub table_over : NodeStyle → TableParts → (parts : List Result) → Result
table_over style grid parts = record (over style (Table grid) parts) { has_children = true; is_stray = any_stray parts }

-- a table below its captions, which are blocks: there is none without a row
abbrev pub captioned : NodeStyle → TableParts → (captions parts : List Result) → Result
captioned style grid captions parts =
    let blocks : List Result = map (λ (r : Result). record r { node = record r.node { kind = Block } }) captions in
    let table = if list_any (λ r. r.has_children) parts then table_over no_style grid parts ∷ [] else [] in
    record (over style Container (blocks ++ table)) { has_children = true }

-- A TABLE over its parts; none where a cell would end past the last position
abbrev pub table_of : NodeStyle → (captions parts : List Result) → Option Result
table_of style captions parts = do
  grid ← option_map unmeasured_table (cell_grid_of (flat_map (λ r. unwrap_or (spans_of r.role) []) parts))
  Some (if is_filled captions then captioned style grid captions parts else table_over style grid parts)

-- ---- which results a node keeps, and which show nothing

-- an ordered list keeps items, and a list of descriptions terms and descriptions
abbrev pub keeps : (parent child : NodeKind) → Bool
keeps (Ol start) ListItem = true
keeps (Ol start) child = false
keeps Dl Dt = true
keeps Dl Dd = true
keeps Dl child = false
keeps _ child = true

-- whether a node shows nothing, as far as is seen without going into its children: its text is blank, or it has no children; a table
-- always has some
abbrev pub shows_nothing : NodeKind → (has_children : Bool) → Bool
shows_nothing (Text contents) has_children = is_blank contents
shows_nothing (Image image) has_children = is_blank image.title
shows_nothing (Svg title) has_children = is_blank title
shows_nothing _ has_children = not has_children

-- ---- what an element becomes, over its captions, which only a table has, and the results of its other children

-- its node, or its part of a table; none where a table has no grid
abbrev pub built : ElementKind → NodeStyle → (captions others : List Result) → Option Result
built (Part part.Table) style captions others = table_of style captions (of_role (λ x. is_some (spans_of x)) others)
built (Part part.Body) style captions others =
    let rows = of_role (λ x. is_some (row_of x)) others in
    Some (record (over no_style Container rows) { role = Rows (flat_map (λ r. option_to_list (row_of r.role)) rows); is_stray = any_stray rows })
built (Part part.Row) style captions others =
    let cells = of_role (λ x. is_some (cell_of x)) others in
    Some (record (over style TableRow cells) { role = Row (flat_map (λ r. option_to_list (cell_of r.role)) cells); is_stray = any_stray cells })
built (Part (part.Cell span)) style captions others = Some (record (over style TableCell others) { role = Cell span })
built (Part part.Caption) style captions others = Some (record (over style Container others) { role = Caption })
built (Node kind) style captions others = Some (over style kind (filter (λ r. keeps kind r.node.kind) others))

-- whether it becomes nothing, where it has no results that count: a table counts its captions, and rows where there are any, a link
-- what shows something, and any other node all; a row and a cell never do
abbrev pub is_nothing : ElementKind → IfEmpty → (captions others : List Result) → Bool
is_nothing (Part part.Table) if_empty captions others =
    vanishes if_empty (is_filled captions || list_any (λ r. r.has_children) (of_role (λ x. is_some (spans_of x)) others))
is_nothing (Part part.Row) if_empty captions others = false
is_nothing (Part (part.Cell span)) if_empty captions others = false
is_nothing (Node (Link target)) if_empty captions others =
    vanishes if_empty (list_any (λ r. not (stands_alone r.role && shows_nothing r.node.kind r.has_children)) others)
is_nothing _ if_empty captions others = vanishes if_empty (is_filled others)

-- ---- what is inserted

-- how many levels down an element inserts, at the first of each: in its node, in its first cell, in the first cell of its first
-- row; none where it inserts beside its node
abbrev pub level_in : ElementKind → (has_texts has_captions : Bool) → Option ℕ
level_in (Node kind) has_texts has_captions = if not has_texts || holds_insertions kind then Some 0 else None
level_in (Part part.Table) has_texts has_captions = Some (if has_captions then 0 else 2)
level_in (Part part.Body) has_texts has_captions = Some 2
level_in (Part part.Row) has_texts has_captions = Some 1
level_in (Part _) has_texts has_captions = Some 0

-- nodes before and after those that are so many levels down in the first of some trees; where there is no such tree they are lost
abbrev pub in_first : (level : ℕ) → (front back : Forest RenderNode) → Forest RenderNode → Forest RenderNode
in_first zero front back t = followed_by front (followed_by t back)
in_first (suc level) front back none = none
in_first (suc level) front back (node n children others) = node n (in_first level front back children) others

-- nodes without children
abbrev pub alone : RenderNode → Result
alone n = record { role = Contents; node = n; has_children = false; is_stray = false; below = none }

-- what an element inserts before its children, its mark and its content before, and what it inserts after them
abbrev pub front_of : Element → List Result
front_of e = map alone (text_nodes FragmentStart e.texts.mark ++ text_nodes Text e.texts.before)

abbrev pub back_of : Element → List Result
back_of e = map alone (text_nodes Text e.texts.after)

-- a result with what an element inserts
abbrev pub inserted : (level : Option ℕ) → Element → Result → Result
inserted (Some level) e r =
    let below = in_first level (beside (front_of e)) (beside (back_of e)) r.below in
    record r { has_children = (level == 0 && has_any e.texts) || r.has_children; below = below }
inserted None e r = over no_style Container (front_of e ++ r ∷ back_of e)

-- the result that an element leaves, with what it inserts; its mark where it becomes nothing
abbrev pub left_of : Element → (is_nothing has_captions : Bool) → Result → Option Result
left_of e true has_captions r = option_map (λ name. alone (without_style (FragmentStart name))) e.texts.mark
left_of e false has_captions r = Some (inserted (level_in e.kind (has_any e.texts) has_captions) e r)

-- ---- documents

-- WHAT AN ELEMENT BECOMES
abbrev pub made : Element → (captions others : List Result) → Option (Option Result)
made e captions others =
    option_map (left_of e (is_nothing e.kind e.if_empty captions others) (is_filled captions)) (built e.kind e.style captions others)

-- an element's captions, and the results of its other children, of which a table's feet come last; `inside` has the results of
-- the children of each pick
abbrev pub children_in : ElementKind → (inside : Pick → Option (List Result)) → Option (List Result × List Result)
children_in (Part part.Table) inside = do
  captions ← inside Captions
  others ← inside Others
  feet ← inside Feet
  Some (of_role is_caption captions, others ++ feet)
children_in _ inside = option_map (λ others. ([], others)) (inside All)

-- what a node becomes, by its plan
abbrev pub result_of : Plan → (inside : Pick → Option (List Result)) → Option (Option Result)
result_of plan.Nothing inside = Some None
result_of (plan.Alone n) inside = Some (Some (alone n))
result_of (plan.Over e has_children) inside =
    children_in e.kind (λ pick. if has_children then inside pick else Some []) >>= λ children. made e children.0 children.1

-- WHAT THE NODES of a document BECOME that are picked, in order; none where a table has no grid
abbrev pub results : List StyleRule → Forest Content → Pick → Option (List Result)
results rules none pick = Some []
results rules (node content children others) pick = do
  r ← if picks pick content then result_of (plan_of rules content children) (λ p. results rules children p) else Some None
  rest ← results rules others pick
  Some (option_to_list r ++ rest)

-- THE RENDER TREE of a document; none where a table has no grid, or a part of a table is in none
abbrev pub render_tree_of : List StyleRule → Dom → Option (Forest RenderNode)
render_tree_of rules dom = do
  rs ← results rules (tree_of dom 0) All
  if has_stray rs then None else Some (beside rs)
