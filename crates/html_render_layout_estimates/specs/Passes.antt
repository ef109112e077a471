-- The result of the code's pass over the nodes. It leaves out preferred widths in trees without a table, which don't need
-- them.
use Rattle.std.specs.Prelude.{Bool, true, false, ◌||◌, List, if◌then◌else◌}
use Rattle.html_render_dom_values.specs.Forest.{Forest, none, node}
use Rattle.html_render_parts_widths.specs.declared.shares.ColumnNeed.{ColumnNeed}
use Rattle.html_render_layout_nodes.specs.declared.tree.Estimate.{Estimate}
use Rattle.html_render_layout_nodes.specs.declared.tree.NodeKind.{NodeKind}
use Rattle.html_render_layout_nodes.specs.declared.tree.NodeKind.TheVariants.{Table}
use Rattle.html_render_layout_nodes.specs.declared.tree.RenderNode.{RenderNode}

-- whether a node is a table, and whether any node of a forest is one
abbrev pub is_table : NodeKind → Bool
is_table (Table grid) = true
is_table kind = false

abbrev pub has_table : Forest RenderNode → Bool
has_table none = false
has_table (node n children beside) = is_table n.kind || (has_table children || has_table beside)

-- a kind with these needs of its columns, if it is a table
abbrev pub with_needs : List ColumnNeed → NodeKind → NodeKind
with_needs needs (Table grid) = Table (record grid { needs = needs })
with_needs needs kind = kind

-- an estimate without its preferred width, and trees without those of their nodes
abbrev pub without_size : Estimate → Estimate
without_size e = record e { preferred_width = 0 }

abbrev pub sized_if : (with_sizes : Bool) → Estimate → Estimate
sized_if with_sizes e = if with_sizes then e else without_size e

abbrev pub without_sizes : Forest RenderNode → Forest RenderNode
without_sizes none = none
without_sizes (node n children beside) =
    node (record n { estimate = without_size n.estimate }) (without_sizes children) (without_sizes beside)

-- THE RESULT of the code for measured trees: preferred widths stay if any node is a table
abbrev pub with_needed_sizes : Forest RenderNode → Forest RenderNode
with_needed_sizes t = if has_table t then t else without_sizes t
