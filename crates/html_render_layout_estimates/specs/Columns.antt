-- The widths that the columns of a table need, as stored in its node.
use Rattle.std.specs.Prelude.{List, []}
use Rattle.html_render_parts_widths.specs.declared.shares.ColumnNeed.{ColumnNeed}
use Rattle.html_render_layout_nodes.specs.declared.tree.NodeKind.{NodeKind}
use Rattle.html_render_layout_nodes.specs.declared.tree.NodeKind.TheVariants.{Table}

-- needs of the columns of a table, by which the table is laid out; empty for other kinds of nodes
abbrev pub needs_of_kind : NodeKind → List ColumnNeed
needs_of_kind (Table grid) = grid.needs
needs_of_kind kind = []
