-- Good trees: finished render trees, with parts of tables in tables alone.
use Rattle.std.specs.Prelude.{Bool, true, false, ◌&&◌, List, [], ◌∷◌, Option, Some, None}
use Rattle.std.specs.Option.{option_map_or}
use Rattle.html_render_dom_values.specs.Forest.{Forest, none, node}
use Rattle.html_render_parts.specs.declared.table.cells.GridCell.{GridCell}
use Rattle.html_render_layout_nodes.specs.declared.tree.NodeKind.{NodeKind}
use Rattle.html_render_layout_nodes.specs.declared.tree.NodeKind.TheVariants.{Text, Break, Image, Svg, FragmentStart, Table, TableRow, TableCell}
use Rattle.html_render_layout_nodes.specs.declared.tree.RenderNode.{RenderNode}

-- place of trees: in a table, with its remaining rows; in a row, with its remaining cells; or anywhere else. A node without
-- children is like a row without cells.
pub data TreePlace : Type 0 where
  Anywhere : TreePlace
  InTable : (rows : List (List GridCell)) → TreePlace
  InRow : (cells : List GridCell) → TreePlace

-- whether no row or cell remains
abbrev pub is_over : TreePlace → Bool
is_over (InTable (cells ∷ rows)) = false
is_over (InRow (cell ∷ cells)) = false
is_over _ = true

-- places of the children and of the later siblings of a node of a kind that is at a place; none if the kind isn't allowed there.
-- Texts, line breaks, images, drawings and fragment marks have no children
abbrev pub places_around : TreePlace → NodeKind → Option (TreePlace × TreePlace)
places_around Anywhere (Table grid) = Some (InTable grid.cells.rows, Anywhere)
places_around Anywhere TableRow = None
places_around Anywhere TableCell = None
places_around Anywhere (Text text) = Some (InRow [], Anywhere)
places_around Anywhere Break = Some (InRow [], Anywhere)
places_around Anywhere (Image image) = Some (InRow [], Anywhere)
places_around Anywhere (Svg title) = Some (InRow [], Anywhere)
places_around Anywhere (FragmentStart name) = Some (InRow [], Anywhere)
places_around Anywhere kind = Some (Anywhere, Anywhere)
places_around (InTable (cells ∷ rows)) TableRow = Some (InRow cells, InTable rows)
places_around (InRow (cell ∷ cells)) TableCell = Some (Anywhere, InRow cells)
places_around _ _ = None

-- GOOD TREES: each table has the number of rows of its grid, and each of these rows its number of cells. No row and no cell
-- is anywhere else. Leaves have no children.
abbrev pub are_good : TreePlace → Forest RenderNode → Bool
are_good place none = is_over place
are_good place (node n children others) = option_map_or (λ p. are_good p.0 children && are_good p.1 others) (places_around place n.kind) false
