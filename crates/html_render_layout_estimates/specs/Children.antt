-- The children of a node, by the code's counts: each is a part of the estimate of siblings.
use Rattle.std.specs.Prelude.{ℕ}
use Rattle.html_render_dom_values.specs.Forest.{Forest}
use Rattle.html_render_layout_nodes.specs.declared.tree.RenderNode.{RenderNode}
use Rattle.html_render_layout_estimates.specs.Estimates.{siblings}

-- the number of trees in a forest
abbrev pub trees : Forest RenderNode → ℕ
trees t = (siblings t).children

-- the greatest minimum width of a tree of a forest; 0 without trees
abbrev pub greatest_least : Forest RenderNode → ℕ
greatest_least t = (siblings t).min_width

-- the sum of the trees' preferred widths, up to the greatest number
abbrev pub total_size : Forest RenderNode → ℕ
total_size t = (siblings t).preferred_width
