-- The words of nodes: the columns between places where a line may break.
use Rattle.std.specs.Prelude.{ℕ, ◌+◌, ◌-◌, ◌/◌, ◌==◌, ◌||◌, max, sum, map, fold, length, List, [], ◌∷◌, if◌then◌else◌}
use Rattle.std.specs.List.{range_with_len}
use Rattle.std.specs.Str.{chars}
use Rattle.html_render_dom_values.specs.Forest.{Forest, none, node}
use Rattle.html_render_dom_values.specs.declared.white_space.WhiteSpace.{WhiteSpace}
use Rattle.html_render_dom_values.specs.declared.white_space.WhiteSpace.TheVariants.{Pre}
use Rattle.html_render_parts_widths.specs.declared.shares.ColumnNeed.{ColumnNeed}
use Rattle.html_render_parts_widths.specs.declared.spans.Span.{Span}
use Rattle.html_render_parts_widths.specs.Shares.{whole_widths}
use Rattle.html_render_parts_widths.specs.Spans.{greatest_at}
use Rattle.html_render_parts.specs.TableCells.{CellGrid, columns_of}
use Rattle.html_render_layout_lines.specs.Character.{is_collapsible, width_of}
use Rattle.html_render_layout_nodes.specs.declared.tree.NodeKind.{NodeKind}
use Rattle.html_render_layout_nodes.specs.declared.tree.NodeKind.TheVariants.{Text, Container, Break, Emphasis, Strikeout, Superscript, Link}
use Rattle.html_render_layout_nodes.specs.declared.tree.NodeKind.TheVariants.{Image, Svg, FragmentStart, Table}
use Rattle.html_render_layout_nodes.specs.declared.tree.RenderNode.{RenderNode}
use Rattle.html_render_layout_estimates.specs.declared.settings.LayoutSettings.{LayoutSettings}
use Rattle.html_render_layout_estimates.specs.declared.words.WordShape.{WordShape}
use Rattle.html_render_layout_estimates.specs.declared.words.WordShape.TheVariants.{Part, Broken}
use Rattle.html_render_layout_estimates.specs.Cells.{cell_values}
use Rattle.html_render_layout_estimates.specs.TextSize.{saturated}

-- ---- THE SHAPE of a run of characters: `Part` with its columns if no line may break in it; otherwise `Broken` with the columns
-- before the first break, those of the longest word between two breaks, and those after the last break

-- the shape of a place where a line may break
abbrev pub word_break : WordShape
word_break = Broken 0 0 0

-- the shape of a run and another one that follows it
abbrev pub joined_shapes : WordShape → WordShape → WordShape
joined_shapes (Part before) (Part behind) = Part (saturated (before + behind))
joined_shapes (Part before) (Broken first longest last) = Broken (saturated (before + first)) longest last
joined_shapes (Broken first longest last) (Part behind) = Broken first longest (saturated (last + behind))
joined_shapes (Broken first longest last) (Broken next further end) =
    Broken first (max longest (max further (saturated (last + next)))) end

-- THE LONGEST WORD of a run that breaks before and after it
abbrev pub longest_word : WordShape → ℕ
longest_word (Part columns) = columns
longest_word (Broken first longest last) = max longest (max first last)

-- a run between parts of words of these columns
abbrev pub between : (before behind : ℕ) → WordShape → WordShape
between before behind s = joined_shapes (joined_shapes (Part before) s) (Part behind)

-- ---- TEXTS

-- the shape of characters: lines may break at collapsible white space and at U+200B
abbrev pub text_shape : List ℕ → WordShape
text_shape cs = fold (λ s c. joined_shapes s (if is_collapsible c || c == 0x200B then word_break else Part (width_of c))) (Part 0) cs

-- the shape of an image or a drawing by its title in UTF-8, with one column on each side of it; without a title it shows nothing
abbrev pub title_shape : List ℕ → WordShape
title_shape [] = Part 0
title_shape (b ∷ bs) = between 1 1 (text_shape (chars (b ∷ bs)))

-- ---- TABLES

-- THE LONGEST WORD OF EACH COLUMN of a table: the greatest part of any of its cells, whose longest word is divided equally among
-- its columns and rounded down
abbrev pub column_words : CellGrid → (rows : Forest WordShape) → List ℕ
column_words grid rows =
    let words : List Span = cell_values (λ c s. record { start = c.first; count = c.columns; value = longest_word s / c.columns }) grid.rows rows in
    map (greatest_at words) (range_with_len 0 (columns_of grid))

-- needs with these longest words
abbrev pub with_longest : List ColumnNeed → List ℕ → List ColumnNeed
with_longest (need ∷ needs) (word ∷ words) = record need { longest_word = word } ∷ with_longest needs words
with_longest needs words = needs

-- ---- NODES

-- the shape of siblings after another shape
abbrev pub siblings_after : WordShape → Forest WordShape → WordShape
siblings_after s none = s
siblings_after s (node next children beside) = siblings_after (joined_shapes s next) beside

abbrev pub siblings_shape : Forest WordShape → WordShape
siblings_shape trees = siblings_after (Part 0) trees

-- a kind with the longest words of its columns, if it is a table
abbrev pub worded_kind : NodeKind → (below : Forest WordShape) → NodeKind
worded_kind (Table grid) below = Table (record grid { needs = with_longest grid.needs (column_words grid.cells below) })
worded_kind kind below = kind

-- lines of preserved white space may break at each character
abbrev pub unless_preserved : WhiteSpace → WordShape → WordShape
unless_preserved Pre s = word_break
unless_preserved mode s = s

module _ (settings : LayoutSettings) where
  -- The shape of a kind over the shapes of its children. Brackets of a link are 1 column before it and 1 after it; its number
  -- is 3 more. A superscript has 2 columns before it and 1 after it. A table has the columns at which its columns cut no word, and
  -- the separators. Each other kind that isn't a part of a line is a block, with its lines after a prefix.
  abbrev pub kind_shape : NodeKind → (prefix : ℕ) → (below : Forest WordShape) → WordShape
  kind_shape (Text text) prefix below = text_shape (chars text)
  kind_shape (Image image) prefix below = title_shape image.title
  kind_shape (Svg title) prefix below = title_shape title
  kind_shape (FragmentStart name) prefix below = Part 0
  kind_shape Break prefix below = word_break
  kind_shape Container prefix below = siblings_shape below
  kind_shape (Emphasis m) prefix below = siblings_shape below
  kind_shape Strikeout prefix below = siblings_shape below
  kind_shape Superscript prefix below = between 2 1 (siblings_shape below)
  kind_shape (Link target) prefix below = between 1 (if settings.link_footnotes then 4 else 1) (siblings_shape below)
  kind_shape (Table grid) prefix below = Broken 0 (saturated (sum (whole_widths grid.needs) + (length grid.needs - 1))) 0
  kind_shape kind prefix below = Broken 0 (saturated (longest_word (siblings_shape below) + prefix)) 0

  -- THE SHAPE OF EACH NODE of measured trees, with its words, over the shapes of its children
  abbrev pub shapes : Forest RenderNode → Forest WordShape
  shapes none = none
  shapes (node n children beside) =
      let below = shapes children in
      node (unless_preserved n.style.white_space (kind_shape (worded_kind n.kind below) n.estimate.prefix below)) below (shapes beside)

  -- measured trees with the longest words of the columns of each table
  abbrev pub worded : Forest RenderNode → Forest RenderNode
  worded none = none
  worded (node n children beside) = node (record n { kind = worded_kind n.kind (shapes children) }) (worded children) (worded beside)

  -- THE TREES that are laid out: words count under `whole_words`
  abbrev pub with_words : Forest RenderNode → Forest RenderNode
  with_words t = if settings.whole_words then worded t else t
