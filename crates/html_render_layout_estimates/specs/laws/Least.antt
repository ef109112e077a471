-- The minimum width of each node is at most its preferred width; and the code leaves preferred widths 0 in trees without a
-- table.
use Rattle.std.proofs.Common.{◌≡◌, false, ◌||◌, ◌-◌, ◌^◌, ◌≤◌, List, [], ◌∷◌, ◌++◌, refl, sym, ap, ◌∙◌, subst, arith, ℕ, ◌+◌, ◌/◌, Bool, true, cond, ltb, leb, ◌&&◌}
use Rattle.std.proofs.Common.{get_or, map, zero, suc}
use Rattle.std.specs.Prelude.{All, if◌then◌else◌, sum_by}
use Rattle.std.proofs.lemmas.List.Elements.{All-nil, All-cons, All-append, All-head, All-tail, All-map, All-weaker}
use Rattle.html_render_dom_values.specs.Forest.{Forest, none, node}
use Rattle.html_render_parts.specs.Decoration.{Decoration}
use Rattle.html_render_layout_nodes.specs.declared.tree.Entry.{Entry}
use Rattle.html_render_layout_nodes.specs.declared.tree.Estimate.{Estimate}
use Rattle.html_render_layout_nodes.specs.declared.tree.NodeKind.{NodeKind}
use Rattle.html_render_layout_nodes.specs.declared.tree.NodeKind.TheVariants.{Text, Break, Link, Image, Svg, FragmentStart, Table}
use Rattle.html_render_layout_nodes.specs.declared.tree.RenderNode.{RenderNode}
use Rattle.html_render_layout_nodes.specs.Preorder.{flatten}
use Rattle.html_render_parts.specs.TableCells.{columns_of}
use Rattle.html_render_parts.specs.declared.table.cells.GridCell.{GridCell}
use Rattle.html_render_parts_widths.specs.declared.needs.CellNeed.{CellNeed}
use Rattle.html_render_layout_estimates.specs.declared.settings.LayoutSettings.{LayoutSettings}
use Rattle.html_render_layout_estimates.specs.Cells.{cell_needs}
use Rattle.html_render_layout_estimates.specs.CellSteps.{row_needs}
use Rattle.html_render_layout_estimates.specs.Estimates.{prefix_of, measured_kind, estimate_of, measured}
use Rattle.html_render_layout_estimates.specs.Children.{trees, greatest_least, total_size}
use Rattle.html_render_layout_estimates.specs.Passes.{is_table, has_table, without_sizes, with_needed_sizes}
use Rattle.html_render_layout_estimates.specs.Words.{with_words, column_words, shapes, with_longest, worded, worded_kind}
use Rattle.html_render_layout_estimates.specs.laws.Words.{words-plain}
use Rattle.html_render_layout_estimates.specs.laws.Tables.{HaveOrderedWidths, table_within}
use Rattle.std.specs.List.{range_with_len}
use Rattle.std.proofs.Math.Nat.{div-mul-le_self, div-zero, le-div_iff_mul-le}
use Rattle.html_render_parts_widths.specs.declared.shares.ColumnNeed.{ColumnNeed}
use Rattle.html_render_parts_widths.specs.Shares.{share_by_size, shares}
use Rattle.html_render_parts_widths.specs.Spans.{given, greatest_at}
use Rattle.html_render_parts_widths.specs.Needs.{AreWithinSizes, column_needs, need_at, part}
use Rattle.html_render_parts_widths.specs.laws.SharesFit.{shares_are}
use Rattle.html_render_layout_estimates.specs.Columns.{needs_of_kind}
use Rattle.html_render_layout_estimates.specs.declared.words.WordShape.{WordShape}

-- whether a node's minimum width is at most its preferred width
abbrev pub IsOrderedEstimate : Entry RenderNode → Type 0
IsOrderedEstimate e = e.node.estimate.min_width ≤ e.node.estimate.preferred_width

-- whether a node's preferred width is 0
abbrev pub IsUnsized : Entry RenderNode → Type 0
IsUnsized e = e.node.estimate.preferred_width ≡ 0

-- whether the minimum width of each node of a forest is at most its preferred width
abbrev pub AllWithin : Forest RenderNode → Type 0
AllWithin none = Unit {0}
AllWithin (node n children beside) = (n.estimate.min_width ≤ n.estimate.preferred_width) × AllWithin children × AllWithin beside

all_within : (t : Forest RenderNode) → AllWithin t → All IsOrderedEstimate (flatten t)
all_within none h = All-nil IsOrderedEstimate
all_within (node n children beside) h =
    All-cons IsOrderedEstimate _ _ h.0
    (All-append IsOrderedEstimate (flatten children) (flatten beside) (all_within children h.1) (all_within beside h.2))

-- lists of cells whose minimum widths are within their preferred widths can be joined
HaveOrderedWidths-append : (xs ys : List CellNeed) → HaveOrderedWidths xs → HaveOrderedWidths ys → HaveOrderedWidths (xs ++ ys)
HaveOrderedWidths-append [] ys h k = k
HaveOrderedWidths-append (x ∷ xs) ys h k = (h.0, HaveOrderedWidths-append xs ys h.1 k)

row_within : (cells : List GridCell) (t : Forest RenderNode) → AllWithin t → HaveOrderedWidths (row_needs cells t)
row_within (c ∷ cs) (node n children beside) h = (h.0, row_within cs beside h.2)
row_within cells t h = tt

pub cells_within : (rows : List (List GridCell)) (t : Forest RenderNode) → AllWithin t → HaveOrderedWidths (cell_needs rows t)
cells_within (cells ∷ more) (node n children beside) h =
    HaveOrderedWidths-append (row_needs cells children) (cell_needs more beside) (row_within cells children h.1) (cells_within more beside h.2)
cells_within rows t h = tt

total_bounded : (t : Forest RenderNode) → total_size t ≤ 2 ^ 64 - 1
total_bounded none = omega arith
total_bounded (node n children beside) = omega arith

all_unsized : (t : Forest RenderNode) → All IsUnsized (flatten (without_sizes t))
all_unsized none = All-nil IsUnsized
all_unsized (node n children beside) =
    All-cons IsUnsized _ _ refl
    (All-append IsUnsized (flatten (without_sizes children)) (flatten (without_sizes beside)) (all_unsized children) (all_unsized beside))

module _ {D A : Type 0} (decoration : Decoration D A) (decorator : D) (settings : LayoutSettings) where
  abbrev estimate : NodeKind → (children : Forest RenderNode) → Estimate
  estimate kind children = estimate_of decoration decorator settings kind children

  abbrev all_measured : Forest RenderNode → Forest RenderNode
  all_measured t = measured decoration decorator settings t

  -- ---- a node

  node_within : (kind : NodeKind) (below : Forest RenderNode) → greatest_least below ≤ total_size below → AllWithin below →
      (estimate kind below).min_width ≤ (estimate kind below).preferred_width
  node_within (Text text) below h w = omega arith
  node_within Break below h w = omega arith
  node_within (Link target) below h w = omega (arith, h, total_bounded below)
  node_within (Image image) below h w = omega arith
  node_within (Svg title) below h w = omega arith
  node_within (FragmentStart name) below h w = omega arith
  node_within (Table grid) below h w =
      let prefix = prefix_of decoration decorator settings (Table grid) (trees below) in
      table_within (columns_of grid.cells) (cell_needs grid.cells.rows below) prefix (trees below) (cells_within grid.cells.rows below w)
  node_within kind below h w = omega (arith, h)

  node_bounded : (kind : NodeKind) (below : Forest RenderNode) → (estimate kind below).preferred_width ≤ 2 ^ 64 - 1
  node_bounded (Table grid) below = omega arith
  node_bounded kind below = omega arith

  -- ---- trees

  pub trees_within : (t : Forest RenderNode) → (greatest_least (all_measured t) ≤ total_size (all_measured t)) × AllWithin (all_measured t)
  trees_within none = (omega arith, tt)
  trees_within (node n children beside) =
      let below = trees_within children in
      let others = trees_within beside in
      let own = node_within n.kind (all_measured children) below.0 below.1 in (
        omega (arith, own, node_bounded n.kind (all_measured children), others.0, total_bounded (all_measured beside)),
        (own, below.1, others.1),
      )

  pub each_within : (t : Forest RenderNode) → All IsOrderedEstimate (flatten (all_measured t))
  each_within t = all_within (all_measured t) (trees_within t).1

  -- ---- trees without a table

  table-kept : (kind : NodeKind) (below : Forest RenderNode) → is_table (measured_kind kind below) ≡ is_table kind
  table-kept (Table grid) below = refl
  table-kept kind below = refl

  pub tables-measured : (t : Forest RenderNode) → has_table (all_measured t) ≡ has_table t
  tables-measured none = refl
  tables-measured (node n children beside) =
      ap (λ b. b || (has_table (all_measured children) || has_table (all_measured beside))) (table-kept n.kind (all_measured children))
      ∙ ap (λ b. is_table n.kind || (b || has_table (all_measured beside))) (tables-measured children)
      ∙ ap (λ b. is_table n.kind || (has_table children || b)) (tables-measured beside)

  pub each_unsized : (t : Forest RenderNode) → has_table t ≡ false →
      All IsUnsized (flatten (with_needed_sizes (with_words settings (all_measured t))))
  each_unsized t plain =
      subst (λ u. All IsUnsized (flatten (with_needed_sizes u))) (sym (words-plain settings (all_measured t) (tables-measured t ∙ plain)))
      (subst (λ b. All IsUnsized (flatten (if b then all_measured t else without_sizes (all_measured t))))
      (sym (tables-measured t ∙ plain)) (all_unsized (all_measured t)))

-- ---- the minimum width of each column of a measured table is at most its preferred width

-- ---- a column

part-le : (count min_width preferred_width : ℕ) → min_width ≤ preferred_width → min_width / count ≤ preferred_width / count
part-le zero min_width preferred_width h = omega (arith, div-zero min_width, div-zero preferred_width)
part-le (suc n) min_width preferred_width h =
    (le-div_iff_mul-le {k = suc n} {x = min_width / suc n} {y = preferred_width} (omega arith)).1 (omega (arith, div-mul-le_self min_width (suc n), h))

given-le : (c : CellNeed) (k : ℕ) → c.min_width ≤ c.preferred_width → given (part c c.min_width) k ≤ given (part c c.preferred_width) k
given-le c k h = by (leb c.start k && ltb k (c.start + c.count))
  where
    by : (b : Bool) → cond b (c.min_width / c.count) 0 ≤ cond b (c.preferred_width / c.count) 0
    by true = part-le c.count c.min_width c.preferred_width h
    by false = omega arith

column-le : (cells : List CellNeed) (k : ℕ) → HaveOrderedWidths cells →
    greatest_at (map (λ c. part c c.min_width) cells) k ≤ greatest_at (map (λ c. part c c.preferred_width) cells) k
column-le [] k h = omega arith
column-le (c ∷ cs) k h = omega (arith, given-le c k h.0, column-le cs k h.1)

pub columns-within : (columns : ℕ) (cells : List CellNeed) → HaveOrderedWidths cells → AreWithinSizes (column_needs columns cells)
columns-within columns cells h =
    All-map (λ (n : ColumnNeed). n.min_width ≤ n.preferred_width) (need_at cells) (range_with_len 0 columns)
    (λ k d inside. column-le cells (get_or (range_with_len 0 columns) k d) h)

-- ---- the columns of all nodes

abbrev HasColumnsWithin : Entry RenderNode → Type 0
HasColumnsWithin e = AreWithinSizes (needs_of_kind e.node.kind)

-- whether the columns of all nodes of a forest are within their preferred widths
abbrev AllColumns : Forest RenderNode → Type 0
AllColumns none = Unit {0}
AllColumns (node n children beside) = AreWithinSizes (needs_of_kind n.kind) × AllColumns children × AllColumns beside

all-columns : (t : Forest RenderNode) → AllColumns t → All HasColumnsWithin (flatten t)
all-columns none h = All-nil HasColumnsWithin
all-columns (node n children beside) h =
    All-cons HasColumnsWithin _ _ h.0
    (All-append HasColumnsWithin (flatten children) (flatten beside) (all-columns children h.1) (all-columns beside h.2))

columns-unsized : (t : Forest RenderNode) → AllColumns t → AllColumns (without_sizes t)
columns-unsized none h = h
columns-unsized (node n children beside) h = (h.0, columns-unsized children h.1, columns-unsized beside h.2)

columns-needed : (t : Forest RenderNode) → AllColumns t → AllColumns (with_needed_sizes t)
columns-needed t h = by (has_table t)
  where
    by : (b : Bool) → AllColumns (if b then t else without_sizes t)
    by true = h
    by false = columns-unsized t h

kind-columns : (kind : NodeKind) (below : Forest RenderNode) → AllWithin below → AreWithinSizes (needs_of_kind (measured_kind kind below))
kind-columns (Table grid) below h =
    columns-within (columns_of grid.cells) (cell_needs grid.cells.rows below) (cells_within grid.cells.rows below h)
kind-columns kind below h = All-nil (λ (n : ColumnNeed). n.min_width ≤ n.preferred_width)

abbrev HasSharesBySize : ℕ → Entry RenderNode → Type 0
HasSharesBySize width e =
    let needs = needs_of_kind e.node.kind in
    shares width needs ≡ map (share_by_size width (sum_by (λ (n : ColumnNeed). n.preferred_width) needs)) needs

-- columns with words are within their preferred widths
within-longest : (needs : List ColumnNeed) (words : List ℕ) → AreWithinSizes needs → AreWithinSizes (with_longest needs words)
within-longest (n ∷ ns) (w ∷ ws) h =
    let P : ColumnNeed → Type 0 = λ m. m.min_width ≤ m.preferred_width in
    All-cons P (record n { longest_word = w }) (with_longest ns ws) (All-head P n ns h) (within-longest ns ws (All-tail P n ns h))
within-longest needs words h = h

columns-worded : (kind : NodeKind) (below : Forest WordShape) → AreWithinSizes (needs_of_kind kind) → AreWithinSizes (needs_of_kind (worded_kind kind below))
columns-worded (Table grid) below h = within-longest grid.needs (column_words grid.cells below) h
columns-worded kind below h = h

module _ {D A : Type 0} (decoration : Decoration D A) (decorator : D) (settings : LayoutSettings) where
  all-worded : (t : Forest RenderNode) → AllColumns t → AllColumns (worded settings t)
  all-worded none h = h
  all-worded (node n children beside) h =
      (columns-worded n.kind (shapes settings children) h.0, all-worded children h.1, all-worded beside h.2)

  columns-with_words : (t : Forest RenderNode) → AllColumns t → AllColumns (with_words settings t)
  columns-with_words t h = by settings.whole_words
    where
      by : (b : Bool) → AllColumns (if b then worded settings t else t)
      by true = all-worded t h
      by false = h

  measured-columns : (t : Forest RenderNode) → AllColumns (measured decoration decorator settings t)
  measured-columns none = tt
  measured-columns (node n children beside) = (
    kind-columns n.kind (measured decoration decorator settings children) (trees_within decoration decorator settings children).1,
    measured-columns children,
    measured-columns beside,
  )

  pub each_column_within : (t : Forest RenderNode) → All HasColumnsWithin (flatten (measured decoration decorator settings t))
  each_column_within t = all-columns (measured decoration decorator settings t) (measured-columns t)

  pub each_needed_column_within : (t : Forest RenderNode) →
      All HasColumnsWithin (flatten (with_needed_sizes (with_words settings (measured decoration decorator settings t))))
  each_needed_column_within t =
      let words = with_words settings (measured decoration decorator settings t) in
      all-columns (with_needed_sizes words) (columns-needed words (columns-with_words (measured decoration decorator settings t) (measured-columns t)))

  pub each_share_by_size : (t : Forest RenderNode) (width : ℕ) →
      All (HasSharesBySize width) (flatten (with_needed_sizes (with_words settings (measured decoration decorator settings t))))
  each_share_by_size t width =
      All-weaker HasColumnsWithin (HasSharesBySize width) (λ e h. shares_are width (needs_of_kind e.node.kind) h)
      (flatten (with_needed_sizes (with_words settings (measured decoration decorator settings t)))) (each_needed_column_within t)

pub ruleset of_columns = (each_column_within, each_needed_column_within)
