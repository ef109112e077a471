-- The estimate of each node of a forest, from its kind and the estimates of its children.
use Rattle.std.specs.Prelude.{ℕ, ℤ, pos, ◌+◌, ◌-◌, ◌*◌, ◌/◌, ◌+ℤ◌, ◌-ℤ◌, max, min, List, sum_by}
use Rattle.std.specs.Int.{saturate_signed, w64}
use Rattle.std.specs.Str.{chars}
use Rattle.html_render_dom_values.specs.Forest.{Forest, none, node}
use Rattle.html_render_parts.specs.Decoration.{Decoration}
use Rattle.html_render_parts_widths.specs.declared.needs.CellNeed.{CellNeed}
use Rattle.html_render_parts_widths.specs.Needs.{column_needs}
use Rattle.html_render_parts.specs.TableCells.{columns_of}
use Rattle.html_render_layout_lines.specs.TaggedText.{text_columns}
use Rattle.html_render_layout_nodes.specs.declared.tree.Estimate.{Estimate}
use Rattle.html_render_layout_nodes.specs.declared.tree.NodeKind.{NodeKind}
use Rattle.html_render_layout_nodes.specs.declared.tree.NodeKind.TheVariants.{Text, Break, Header, BlockQuote, Ul, Ol, Dd}
use Rattle.html_render_layout_nodes.specs.declared.tree.NodeKind.TheVariants.{Link, Image, Svg, FragmentStart, Table}
use Rattle.html_render_layout_nodes.specs.declared.tree.RenderNode.{RenderNode}
use Rattle.html_render_layout_estimates.specs.declared.settings.LayoutSettings.{LayoutSettings}
use Rattle.html_render_layout_estimates.specs.TextSize.{size_of, saturated}
use Rattle.html_render_layout_estimates.specs.Cells.{cell_needs}

-- the estimate of siblings together: the greatest of their minimum widths, the sum of their preferred widths, up to the
-- greatest number, and how many they are
abbrev pub siblings : Forest RenderNode → Estimate
siblings none = record { min_width = 0; preferred_width = 0; prefix = 0; children = 0 }
siblings (node n children beside) =
    let all = siblings beside in
    let preferred_width = saturated (n.estimate.preferred_width + all.preferred_width) in
    record { min_width = max n.estimate.min_width all.min_width; preferred_width = preferred_width; prefix = 0; children = all.children + 1 }

-- the estimate of a node with these widths after a prefix: the prefix's columns are added to both
abbrev pub behind : (prefix min_width preferred_width children : ℕ) → Estimate
behind prefix min_width preferred_width children =
    record { min_width = saturated (min_width + prefix); preferred_width = saturated (preferred_width + prefix); prefix = prefix; children = children }

-- THE ESTIMATE OF A TABLE. Its minimum width is the sum of its columns' minimum widths. Its preferred width is the sum over
-- its cells of the part that each of their columns has, times these columns. One column of text for each separator and the
-- prefix are added.
abbrev pub table_estimate : (columns : ℕ) → List CellNeed → (prefix children : ℕ) → Estimate
table_estimate columns cells prefix children =
    let min_width = sum_by (λ n. n.min_width) (column_needs columns cells) + (columns - 1) in
    behind prefix min_width (sum_by (λ c. c.preferred_width / c.count * c.count) cells + (columns - 1)) children

-- a kind with the needs of its columns for its measured cells, if it is a table: THE NEEDS that the layout reads
abbrev pub measured_kind : NodeKind → (children : Forest RenderNode) → NodeKind
measured_kind (Table grid) children = Table (record grid { needs = column_needs (columns_of grid.cells) (cell_needs grid.cells.rows children) })
measured_kind kind children = kind

-- the preferred width of a text, and the columns of a prefix, both in UTF-8
abbrev pub text_size : List ℕ → ℕ
text_size text = saturated (size_of (chars text))

abbrev pub prefix_columns : List ℕ → ℕ
prefix_columns text = saturated (text_columns (chars text))

module _ {D A : Type 0} (decoration : Decoration D A) (decorator : D) where
  -- the columns of the widest prefix of a list's items: that of the first item or of the last; numbers stop at the ends of
  -- their type
  abbrev pub number_columns : (first : ℤ) → (items : ℕ) → ℕ
  number_columns first items =
      let last = saturate_signed w64 (first +ℤ pos items -ℤ pos 1) in
      max (prefix_columns (decoration.ordered_item_prefix decorator first)) (prefix_columns (decoration.ordered_item_prefix decorator last))

  module _ (settings : LayoutSettings) where
    -- the columns of the prefix of a node with this number of children
    abbrev pub prefix_of : NodeKind → (children : ℕ) → ℕ
    prefix_of (Header level) children = prefix_columns (decoration.header_prefix decorator level)
    prefix_of BlockQuote children = prefix_columns (decoration.quote_prefix decorator)
    prefix_of Ul children = prefix_columns (decoration.unordered_item_prefix decorator)
    prefix_of (Ol first) children = number_columns first children
    prefix_of Dd children = 2
    prefix_of kind children = 0

    -- the estimate of a text in one piece, of this preferred width
    abbrev pub piece : (preferred_width : ℕ) → Estimate
    piece preferred_width = record { min_width = min preferred_width settings.min_wrap_width; preferred_width = preferred_width; prefix = 0; children = 0 }

    -- THE ESTIMATE of a node over its measured children. An image has 2 columns more than its title, and a link 5 more than
    -- its children, for the decorator's texts around them.
    abbrev pub estimate_of : NodeKind → (children : Forest RenderNode) → Estimate
    estimate_of (Text text) children = piece (text_size text)
    estimate_of Break children = record { min_width = 1; preferred_width = 1; prefix = 0; children = 0 }
    estimate_of (Image image) children = piece (saturated (text_size image.title + 2))
    estimate_of (Svg title) children = piece (text_size title)
    estimate_of (FragmentStart name) children = record { min_width = 0; preferred_width = 0; prefix = 0; children = 0 }
    estimate_of (Link target) children =
        let all = siblings children in
        record { min_width = max all.min_width 5; preferred_width = saturated (all.preferred_width + 5); prefix = 0; children = all.children }
    estimate_of (Table grid) children = table_estimate (columns_of grid.cells) (cell_needs grid.cells.rows children) 0 (siblings children).children
    estimate_of kind children = let all = siblings children in behind (prefix_of kind all.children) all.min_width all.preferred_width all.children

    -- THE MEASURED TREES: each node with its estimate
    abbrev pub measured : Forest RenderNode → Forest RenderNode
    measured none = none
    measured (node n children beside) =
        let below = measured children in
        node (record n { kind = measured_kind n.kind below; estimate = estimate_of n.kind below }) below (measured beside)
