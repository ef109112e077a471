-- Promises of the calls that lay out or render a tree, about their lines.
use Rattle.std.specs.Prelude.{◌≡◌, ◌≤◌, ℕ, true, false, List, Some, IfSome, IsSome}
use Rattle.html_render_dom_values.specs.Forest.{Forest}
use Rattle.html_render_parts.specs.Decoration.{Decoration}
use Rattle.html_render_layout_lines.specs.Line.{Line, AllWithinWidth}
use Rattle.html_render_layout_nodes.specs.declared.tree.RenderNode.{RenderNode}
use Rattle.html_render_layout_nodes.specs.Visits.{run}
use Rattle.html_render_layout_estimates.specs.declared.settings.LayoutSettings.{LayoutSettings}
use Rattle.html_render_layout_blocks.specs.declared.block.BlockSetting.{BlockSetting}
use Rattle.html_render_layout.specs.Kept.{visited_nodes, KeepsTexts}
use Rattle.html_render_layout.specs.Layout.{layout_lines, layout_of, Defined, by_stacks}

-- Promises about the lines of a result. They are the definition's lines of the tree in a block. With overflow off and
-- closing lines cut, none passes the width. Where overflow off gives lines, these are the same. Each visible character of
-- the texts that are visited, without skipped cells, is in them.
pub record AreLines {S A : Type 0} (d : Decoration S A) (settings : LayoutSettings) (tree : Forest RenderNode) (decorator : S) (block : BlockSetting)
    (lines : List (Line (List A) ℕ)) : Type 0 where
  pub are : layout_lines d settings tree decorator block ≡ Some lines
  pub within : block.overflow ≡ false → settings.wrap_links ≡ true → AllWithinWidth block.width lines
  pub same : IfSome (layout_lines d settings tree decorator (record block { overflow = false })) (λ others. lines ≡ others)
  pub kept : KeepsTexts (visited_nodes d settings tree decorator block) lines

-- lines of a result, with their promises and with `Shown` of them
abbrev pub Lines : {S A : Type 0} → Decoration S A → LayoutSettings → Forest RenderNode → S → BlockSetting → (List (Line (List A) ℕ) → Type 0) → Type 0
Lines {S} {A} d settings tree decorator block Shown =
    (lines : List (Line (List A) ℕ)) × AreLines d settings tree decorator block lines × Shown lines

-- whether there are lines at each width from 1, with overflow on
abbrev pub HasLines : {S A : Type 0} → Decoration S A → LayoutSettings → Forest RenderNode → S → BlockSetting → Type 0
HasLines d settings tree decorator block = block.overflow ≡ true → 1 ≤ block.width → IsSome (layout_lines d settings tree decorator block)

-- whether each layout of trees leaves the treatment of texts, with its tag, and the decorator as they were
abbrev pub LeavesTexts : {S A : Type 0} → Decoration S A → Type 0
LeavesTexts {S} {A} d =
    (t : Forest RenderNode) (s : Defined S A) → IfSome (run (layout_of (by_stacks d)) t s) (λ r. (r.text ≡ s.text) × (r.decorator ≡ s.decorator))
