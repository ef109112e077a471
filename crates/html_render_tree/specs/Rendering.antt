-- The lines of a render tree under a configuration.
use Rattle.std.specs.Prelude.{◌≡◌, ◌≢◌, ◌≤◌, ℕ, Bool, true, false, List, [], Option, Some, None, Result, Err, IfSome, map}
use Rattle.std.specs.Cmp.Lexicographic.{pointwise}
use Rattle.html_render_dom_values.specs.Forest.{Forest}
use Rattle.html_render_dom_values.specs.declared.errors.Error.{Error}
use Rattle.html_render_dom_values.specs.declared.errors.Error.TheVariants.{TooNarrow}
use Rattle.html_render_dom_values.specs.Outcome.{◌>>=◌}
use Rattle.html_render_dom_styles.specs.Rules.{Rule}
use Rattle.html_render_layout_lines.specs.Line.{Line}
use Rattle.html_render_parts.specs.Decoration.{Decoration}
use Rattle.html_render_layout_nodes.specs.declared.tree.RenderNode.{RenderNode}
use Rattle.html_render_layout_estimates.specs.declared.settings.LayoutSettings.{LayoutSettings}
use Rattle.html_render_layout_blocks.specs.declared.block.BlockSetting.{BlockSetting}
use Rattle.html_render_layout.specs.Layout.{layout_lines, mark_names}
use Rattle.html_render_layout.specs.Promises.{HasLines, LeavesTexts, Lines}
use Rattle.html_render_layout_estimates.specs.Settings.{default_settings}
use Rattle.html_render_layout_tagged.specs.Grouping.{LinePart, grouped}

-- options of a configuration: decorator, rules in the order in which they were added, whether overflow is allowed, limit of
-- the columns of a paragraph's lines, and settings of layout
pub record Options (S : Type 0) : Type 0 where
  pub decorator : S
  pub rules : List Rule
  pub overflow : Bool
  pub max_wrap_width : Option ℕ
  pub settings : LayoutSettings

-- options that a configuration begins with
abbrev pub initial_options : {S : Type 0} → S → Options S
initial_options decorator = record { decorator = decorator; rules = []; overflow = false; max_wrap_width = None; settings = default_settings }

-- setting of the block of a document in a width
abbrev pub document_block : {S : Type 0} → Options S → (width : ℕ) → BlockSetting
document_block options width = record { width = width; max_wrap_width = options.max_wrap_width; overflow = options.overflow }

module _ {S A : Type 0} (d : Decoration S A) (options : Options S) (tree : Forest RenderNode) (width : ℕ) where
  -- THE LINES of a render tree in a width, under these options: each character with its annotations; none where it is too
  -- narrow
  abbrev pub rendered_lines : Option (List (Line (List A) ℕ))
  rendered_lines = layout_lines d options.settings tree options.decorator (document_block options width)

  -- names of the marks in these lines
  abbrev pub rendered_names : Option (List (List ℕ))
  rendered_names = mark_names d options.settings tree options.decorator (document_block options width)

  -- lines as tagged strings, of characters whose annotations are equal one by one
  abbrev pub rendered_strings : (A → A → Bool) → Option (List (List (LinePart (List A))))
  rendered_strings eq = do
    lines ← rendered_lines
    names ← rendered_names
    Some (map (grouped (pointwise eq) names) lines)

-- ---- promises of the calls that render

-- Promises of a call that renders a tree, whatever its result is. Width 0 is too narrow. With overflow on no other width is,
-- and there are lines at each. After trees are laid out, texts are treated as before them.
abbrev pub KeepsPromises : {S A R : Type 0} → Decoration S A → Options S → Forest RenderNode → (width : ℕ) → Result R Error → Type 0
KeepsPromises d options tree width result =
    (width ≡ 0 → result ≡ Err TooNarrow)
    × (options.overflow ≡ true → 1 ≤ width → result ≢ Err TooNarrow)
    × HasLines d options.settings tree options.decorator (document_block options width)
    × LeavesTexts d

-- lines that a call returns, with their promises and with `Shown` of them
abbrev pub Rendered : {S A : Type 0} → Decoration S A → Options S → Forest RenderNode → (width : ℕ) → (List (Line (List A) ℕ) → Type 0) → Type 0
Rendered d options tree width Shown = Lines d options.settings tree options.decorator (document_block options width) Shown

-- promises of tagged strings: they are the lines under the names of their marks; these are the names of the tree in the
-- width, and those of overflow off where that gives any
pub record AreStrings {S A : Type 0} (d : Decoration S A) (options : Options S) (tree : Forest RenderNode) (width : ℕ) (eq : A → A → Bool)
    (strings : List (List (LinePart (List A)))) (lines : List (Line (List A) ℕ)) : Type 0 where
  pub names : List (List ℕ)
  pub are_names : rendered_names d options tree width ≡ Some names
  pub same_names : IfSome (mark_names d options.settings tree options.decorator (record (document_block options width) { overflow = false })) (λ others. names ≡ others)
  pub are : strings ≡ map (grouped (pointwise eq) names) lines
