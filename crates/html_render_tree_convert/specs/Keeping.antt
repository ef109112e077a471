-- What a node keeps and counts of what its children become, as code keeps it.
use Rattle.std.specs.Prelude.{Bool, true, false, not, ◌&&◌}
use Rattle.html_render_layout_nodes.specs.declared.tree.NodeKind.{NodeKind}
use Rattle.html_render_layout_nodes.specs.declared.tree.NodeKind.TheVariants.{Ol, ListItem, Dl, Dt, Dd, Link}
use Rattle.html_render_tree_convert.specs.Results.{Role, stands_alone, shows_nothing}
use Rattle.html_render_tree_convert.specs.declared.kinds.Keeping.{Keeping}
use Rattle.html_render_tree_convert.specs.declared.kinds.Keeping.TheVariants.{Any, Items, Descriptions, Shown}

-- what a node of a kind keeps and counts of what its children become
abbrev pub keeping_of : NodeKind → Keeping
keeping_of (Ol start) = Items
keeping_of Dl = Descriptions
keeping_of (Link target) = Shown
keeping_of _ = Any

abbrev pub keeps_by : Keeping → (child : NodeKind) → Bool
keeps_by Items ListItem = true
keeps_by Items child = false
keeps_by Descriptions Dt = true
keeps_by Descriptions Dd = true
keeps_by Descriptions child = false
keeps_by _ child = true

abbrev pub counts_by : Keeping → Role → (child : NodeKind) → (has_children : Bool) → Bool
counts_by Shown r child has_children = not (stands_alone r && shows_nothing child has_children)
counts_by _ r child has_children = true
