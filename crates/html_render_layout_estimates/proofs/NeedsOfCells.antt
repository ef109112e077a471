-- The needs of a table's cells are over its columns, and without trees there are none.
use Rattle.std.proofs.Common.{◌≡◌, ◌+◌, ◌<◌, ◌≤◌, ℕ, List, [], ◌∷◌, All, refl}
use Rattle.std.proofs.lemmas.List.Elements.{All-nil, All-cons, All-head, All-tail, All-append}
use Rattle.html_render_dom_values.specs.Forest.{Forest, none, node}
use Rattle.html_render_parts.specs.declared.table.cells.GridCell.{GridCell}
use Rattle.html_render_parts_widths.specs.Needs.{IsCell, AreCells}
use Rattle.html_render_layout_nodes.specs.declared.tree.RenderNode.{RenderNode}
use Rattle.html_render_layout_estimates.specs.Cells.{cell_needs}
use Rattle.html_render_layout_estimates.specs.CellSteps.{row_needs}

pub row_without : (cells : List GridCell) → row_needs cells none ≡ []
row_without [] = refl
row_without (c ∷ cs) = refl

pub rows_without : (rows : List (List GridCell)) → cell_needs rows none ≡ []
rows_without [] = refl
rows_without (r ∷ rs) = refl

-- whether a cell of a grid covers one or more of `columns` columns
abbrev pub OnColumns : (columns : ℕ) → GridCell → Type 0
OnColumns columns c = (c.first + c.columns ≤ columns) × (0 < c.columns)

row_is : (columns : ℕ) (cells : List GridCell) (t : Forest RenderNode) → All (OnColumns columns) cells → AreCells columns (row_needs cells t)
row_is columns (c ∷ cs) (node n children beside) h =
    let first = All-head (OnColumns columns) c cs h in
    All-cons (IsCell columns) (record { start = c.first; count = c.columns; preferred_width = n.estimate.preferred_width; min_width = n.estimate.min_width })
    (row_needs cs beside) (record { over = first.0; some = first.1 }) (row_is columns cs beside (All-tail (OnColumns columns) c cs h))
row_is columns cells t h = All-nil (IsCell columns)

pub cells_are : (columns : ℕ) (rows : List (List GridCell)) (t : Forest RenderNode) → All (All (OnColumns columns)) rows →
    AreCells columns (cell_needs rows t)
cells_are columns (cells ∷ more) (node n children beside) h =
    All-append (IsCell columns) (row_needs cells children) (cell_needs more beside)
    (row_is columns cells children (All-head (All (OnColumns columns)) cells more h))
    (cells_are columns more beside (All-tail (All (OnColumns columns)) cells more h))
cells_are columns rows t h = All-nil (IsCell columns)
