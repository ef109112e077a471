-- The own cells of a table's rows, each at its own column: what is stored of a grid, without its other places.
use Rattle.std.specs.Prelude.{ℕ, ◌+◌, ◌-◌, List, [], ◌∷◌, ◌++◌, map, Option, Some, None, if◌then◌else◌}
use Rattle.html_render_parts.specs.declared.table.Span.{Span}
use Rattle.html_render_parts.specs.declared.table.cells.GridCell.{GridCell}
use Rattle.html_render_parts.specs.declared.table.placement.PositionedCell.{PositionedCell}
use Rattle.html_render_parts.specs.Placement.{hanging, own_from, placed_rows}
use Rattle.html_render_parts.specs.Grid.{edges_of, rank}
use Rattle.html_render_parts.specs.Positions.{positions_fit}
use Rattle.html_render_parts.specs.TableCells.{CellGrid}

-- own cells of the rows from `row` on, at their own columns
abbrev pub own_rows_from : ℕ → (hung : List PositionedCell) → List (List Span) → List (List PositionedCell)
own_rows_from row hung [] = []
own_rows_from row hung (cells ∷ more) = let own = own_from row 0 hung cells in own ∷ own_rows_from (row + 1) (hanging (row + 1) (hung ++ own)) more

-- a cell of this span on the columns between its own column and its end: their first and their number, and its rowspan
abbrev pub cell_at : (edges : List ℕ) → (column : ℕ) → Span → GridCell
cell_at edges column s =
    let first = rank edges column in
    record { rowspan = s.rowspan; first = first; columns = rank edges (column + s.colspan) - first }

-- a cell on the columns of its grid
abbrev pub on_columns : (edges : List ℕ) → PositionedCell → GridCell
on_columns edges c = cell_at edges c.column c.span

-- own cells of these rows on the columns of their grid
abbrev pub cells_of : List (List Span) → CellGrid
cells_of rows =
    let edges = edges_of (placed_rows rows) in
    record { edges = edges; rows = map (map (on_columns edges)) (own_rows_from 0 [] rows) }

-- these cells, if each place of the rows ends below 2^128
abbrev pub own_grid_of : List (List Span) → Option CellGrid
own_grid_of rows = if positions_fit (placed_rows rows) then Some (cells_of rows) else None
