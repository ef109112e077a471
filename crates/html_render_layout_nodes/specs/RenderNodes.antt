-- Nodes of a render tree.
use Rattle.std.specs.Prelude.{None, false}
use Rattle.html_render_dom_values.specs.declared.white_space.WhiteSpace.TheVariants.{Normal}
use Rattle.html_render_layout_nodes.specs.declared.tree.Estimate.{Estimate}
use Rattle.html_render_layout_nodes.specs.declared.tree.NodeKind.{NodeKind}
use Rattle.html_render_layout_nodes.specs.declared.tree.NodeStyle.{NodeStyle}
use Rattle.html_render_layout_nodes.specs.declared.tree.RenderNode.{RenderNode}

-- the style that sets nothing
abbrev pub no_style : NodeStyle
no_style = record { colour = None; background = None; white_space = Normal; preformatted = false }

-- the estimate of an unmeasured node
abbrev pub unmeasured : Estimate
unmeasured = record { min_width = 0; preferred_width = 0; prefix = 0; children = 0 }

abbrev pub without_style : NodeKind → RenderNode
without_style k = record { kind = k; style = no_style; estimate = unmeasured }
