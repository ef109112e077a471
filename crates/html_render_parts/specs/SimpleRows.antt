-- Simple rows: no cell hangs into such a row, and none of its own hangs into the next one. So its places are its own cells,
-- side by side from position 0 on.
use Rattle.std.specs.Prelude.{ℕ, Bool, ◌+◌, ◌^◌, ◌<◌, List, [], ◌∷◌, Option, Some, None, All, map, slice_index_or, if◌then◌else◌}
use Rattle.html_render_parts.specs.declared.table.Span.{Span}
use Rattle.html_render_parts.specs.declared.table.CellKind.TheVariants.{Cell}
use Rattle.html_render_parts.specs.declared.table.PlacedCell.{PlacedCell}
use Rattle.html_render_parts.specs.declared.table.cells.GridCell.{GridCell}
use Rattle.html_render_parts.specs.declared.table.placement.Place.{Place}
use Rattle.html_render_parts.specs.declared.table.placement.PositionedCell.{PositionedCell}
use Rattle.html_render_parts.specs.Placement.{own_from}
use Rattle.html_render_parts.specs.PlacementSteps.{row_fits, row_told}
use Rattle.html_render_parts.specs.OwnCells.{cell_at, on_columns}

-- places of a row; `None` if one would end past 2^128 - 1
abbrev pub fitting_row : List Place → Option (List Place)
fitting_row places = if row_fits places then Some places else None

-- cells side by side from a position on, on the columns of their grid
abbrev pub cells_from : (edges : List ℕ) → ℕ → List Span → List GridCell
cells_from edges cursor [] = []
cells_from edges cursor (s ∷ ss) = cell_at edges cursor s ∷ cells_from edges (cursor + s.colspan) ss

-- the place of a cell that isn't displaced: between the edges of its columns
abbrev pub place_on : (edges : List ℕ) → GridCell → PlacedCell
place_on edges c = record {
  kind = Cell;
  start = slice_index_or edges c.first 0;
  end = slice_index_or edges (c.first + c.columns) 0;
  columns = c.columns;
}

-- own cells of a row, of which none are stored if it is simple
abbrev pub own_or_simple : ℕ → List Span → (stored : List PositionedCell) → List PositionedCell
own_or_simple row cells [] = own_from row 0 [] cells
own_or_simple row cells (c ∷ cs) = c ∷ cs

-- own cells of a row that are stored: none of one that isn't placed
abbrev pub own_placed : (is_placed : Bool) → (own : List PositionedCell) → List PositionedCell
own_placed is_placed own = if is_placed then own else []

-- own cells of the rows from `row` on, of which none are stored for simple rows
abbrev pub own_with_simple : ℕ → List (List Span) → (stored : List (List PositionedCell)) → List (List PositionedCell)
own_with_simple row [] stored = []
own_with_simple row (cells ∷ more) [] = []
own_with_simple row (cells ∷ more) (own ∷ rest) = own_or_simple row cells own ∷ own_with_simple (row + 1) more rest

-- whether the own cells of a row end below 2^128
abbrev pub StoredFit : List Span → (stored : List PositionedCell) → Type 0
StoredFit cells [] = All (λ n. n < 2 ^ 128) (row_told 0 [] cells)
StoredFit cells (c ∷ cs) = All (λ d. d.column + d.span.colspan < 2 ^ 128) (c ∷ cs)

-- whether the own cells of all rows end below 2^128
abbrev pub AllStoredFit : List (List Span) → (stored : List (List PositionedCell)) → Type 0
AllStoredFit [] stored = Unit {0}
AllStoredFit (cells ∷ more) [] = Unit {0}
AllStoredFit (cells ∷ more) (own ∷ rest) = StoredFit cells own × AllStoredFit more rest

-- own cells of a row on the columns of their grid, by its spans and its stored cells
abbrev pub row_on : (edges : List ℕ) → List Span → (stored : List PositionedCell) → List GridCell
row_on edges cells [] = cells_from edges 0 cells
row_on edges cells (c ∷ cs) = map (on_columns edges) (c ∷ cs)

-- own cells of all rows on the columns of their grid, by their spans and their stored cells
abbrev pub own_rows_on : (edges : List ℕ) → List (List Span) → (stored : List (List PositionedCell)) → List (List GridCell)
own_rows_on edges [] stored = []
own_rows_on edges (cells ∷ more) [] = []
own_rows_on edges (cells ∷ more) (own ∷ rest) = row_on edges cells own ∷ own_rows_on edges more rest
