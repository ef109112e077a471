-- The cells above a row, by a definition on all rows at once.
use Rattle.std.specs.Prelude.{ℕ, List, [], take, flat_map}
use Rattle.html_render_parts.specs.declared.table.Span.{Span}
use Rattle.html_render_parts.specs.declared.table.placement.PositionedCell.{PositionedCell}
use Rattle.html_render_parts.specs.OwnCells.{own_rows_from}

-- own cells of each row of a table, at their own columns
abbrev pub own_rows : List (List Span) → List (List PositionedCell)
own_rows rows = own_rows_from 0 [] rows

-- all own cells of the rows above `row`
abbrev pub cells_above : (row : ℕ) → List (List Span) → List PositionedCell
cells_above row rows = flat_map (λ own. own) (take row (own_rows rows))
