-- Own cells of a table in the rows of its grid.
use Rattle.std.specs.Prelude.{ℕ, List, filter, map}
use Rattle.html_render_parts.specs.declared.table.PlacedCell.{PlacedCell}
use Rattle.html_render_parts.specs.declared.table.cells.GridCell.{GridCell}
use Rattle.html_render_parts.specs.Grid.{rank}
use Rattle.html_render_parts.specs.TableCells.{is_cell}

-- first column and number of columns of each own cell among the places of a row
abbrev pub cells_in : (edges : List ℕ) → List PlacedCell → List (ℕ × ℕ)
cells_in edges places = map (λ p. (rank edges p.start, p.columns)) (filter (λ p. is_cell p.kind) places)

-- first column and number of columns of each cell
abbrev pub columns_taken : List GridCell → List (ℕ × ℕ)
columns_taken cells = map (λ c. (c.first, c.columns)) cells
