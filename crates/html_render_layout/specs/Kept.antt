-- The texts of a tree that the lines of its layout show.
use Rattle.std.specs.Prelude.{ℕ, ◌≤◌, false, List, [], flat_map}
use Rattle.std.specs.Option.{option_map_or}
use Rattle.std.specs.Str.{chars}
use Rattle.html_render_dom_values.specs.Forest.{Forest}
use Rattle.html_render_parts.specs.Decoration.{Decoration}
use Rattle.html_render_layout_lines.specs.Line.{Line}
use Rattle.html_render_layout_lines.specs.Visible.{visible_in_lines}
use Rattle.html_render_layout_nodes.specs.declared.tree.RenderNode.{RenderNode}
use Rattle.html_render_layout_nodes.specs.Visits.{bare, nodes_at}
use Rattle.html_render_layout_blocks.specs.declared.block.BlockSetting.{BlockSetting}
use Rattle.html_render_layout_blocks.specs.Visible.{visible_in_text}
use Rattle.html_render_layout_pictures.specs.Visible.{count}
use Rattle.html_render_layout_estimates.specs.declared.settings.LayoutSettings.{LayoutSettings}
use Rattle.html_render_layout.specs.Layout.{kind_text, by_stacks, layout_of, estimated, empty_state}

-- nodes that a layout visits, in order, without skipped cells and the nodes in them
abbrev pub visited_nodes : {S A : Type 0} → Decoration S A → LayoutSettings → Forest RenderNode → S → BlockSetting → List RenderNode
visited_nodes d settings t decorator block =
    nodes_at false (layout_of (by_stacks d)) bare 0 (estimated d settings decorator t) (empty_state d settings decorator block)

-- whether each visible character is in the lines at least as often as in the texts among these nodes
abbrev pub KeepsTexts : {T M : Type 0} → List RenderNode → List (Line T M) → Type 0
KeepsTexts nodes lines = (c : ℕ) → count c (visible_in_text (flat_map (λ n. option_map_or chars (kind_text n.kind) []) nodes)) ≤ count c (visible_in_lines lines)
