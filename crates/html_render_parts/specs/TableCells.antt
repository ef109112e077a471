-- The cells of a table on the columns of its grid, and the places in each of its rows.
use Rattle.std.specs.Prelude.{◌≡◌, ℕ, ◌+◌, ◌-◌, Bool, true, false, List, length, map, filter, zip, Option, Some, option_map, slice_index_or}
use Rattle.html_render_parts.specs.declared.table.Span.{Span}
use Rattle.html_render_parts.specs.declared.table.PlacedCell.{PlacedCell}
use Rattle.html_render_parts.specs.declared.table.cells.GridCell.{GridCell}
use Rattle.html_render_parts.specs.declared.table.CellKind.{CellKind}
use Rattle.html_render_parts.specs.declared.table.CellKind.TheVariants.{Cell}
use Rattle.html_render_parts.specs.Placement.{placed_rows}
use Rattle.html_render_parts.specs.Grid.{AreValid, grid_of, rank, numbered}

-- edges of a table, and its own cells row by row
pub record CellGrid : Type 0 where
  pub edges : List ℕ
  pub rows : List (List GridCell)

-- number of columns of a table
abbrev pub columns_of : CellGrid → ℕ
columns_of g = length g.edges - 1

-- whether a place holds an own cell of its row
abbrev pub is_cell : CellKind → Bool
is_cell Cell = true
is_cell _ = false

-- own cells of a row on its columns, by the row's places and the cells' spans
abbrev pub cells_on : (edges : List ℕ) → List PlacedCell → List Span → List GridCell
cells_on edges places spans =
    map (λ (x : PlacedCell × Span). record { rowspan = x.1.rowspan; first = rank edges x.0.start; columns = x.0.columns })
    (zip (filter (λ p. is_cell p.kind) places) spans)

-- the grid of these rows with its own cells; `None` if a place would end past 2^128 - 1
abbrev pub cell_grid_of : List (List Span) → Option CellGrid
cell_grid_of rows = option_map (λ g. record { edges = g.0; rows = map (λ x. cells_on g.0 x.0 x.1) (zip g.1 rows) }) (grid_of rows)

-- span of a cell: its colspan is the distance of its edges
abbrev pub span_on : (edges : List ℕ) → GridCell → Span
span_on edges c = record { colspan = slice_index_or edges (c.first + c.columns) 0 - slice_index_or edges c.first 0; rowspan = c.rowspan }

-- spans of all cells
abbrev pub spans_on : CellGrid → List (List Span)
spans_on g = map (map (span_on g.edges)) g.rows

-- places of each row, and of the rows below the last one: cells, placeholders and gaps, each with its number of columns
abbrev pub rows_on : CellGrid → List (List PlacedCell)
rows_on g = map (map (numbered g.edges)) (placed_rows (spans_on g))

-- whether these are the cells of a table on the columns of its own grid
pub record IsCellGrid (g : CellGrid) : Type 0 where
  pub valid : AreValid (spans_on g)
  pub own : cell_grid_of (spans_on g) ≡ Some g
