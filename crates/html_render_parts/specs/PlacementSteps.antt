-- Placement of a table's rows, step by step from the left, and row by row. A step is `None` if a place would end past
-- 2^128 - 1.
use Rattle.std.specs.Prelude.{◌≡◌, ℕ, ◌+◌, ◌^◌, ◌<◌, ◌≤◌, Bool, true, List, [], ◌∷◌, ◌++◌, Option, Some, None, All, length, max, map, drop, filter, nat_lt, nat_le, if◌then◌else◌}
use Rattle.std.specs.List.{list_all}
use Rattle.html_render_dom_values.specs.Outcome.{◌>>=◌}
use Rattle.html_render_parts.specs.declared.table.Span.{Span}
use Rattle.html_render_parts.specs.declared.table.PlacedCell.{PlacedCell}
use Rattle.html_render_parts.specs.declared.table.CellKind.{CellKind}
use Rattle.html_render_parts.specs.declared.table.CellKind.TheVariants.{Cell, Placeholder, Gap}
use Rattle.html_render_parts.specs.declared.table.placement.Place.{Place}
use Rattle.html_render_parts.specs.declared.table.placement.PositionedCell.{PositionedCell}
use Rattle.html_render_parts.specs.Placement.{hanging, due_end, not_due, rest_from, row_from, own_from, bottom_rows, rows_from}
use Rattle.html_render_parts.specs.Positions.{hangs_into, positions_fit}
use Rattle.html_render_parts.specs.OwnCells.{own_rows_from}
use Rattle.html_render_parts.specs.Grid.{numbered}
use Rattle.html_render_parts.specs.TableCells.{CellGrid, IsCellGrid, spans_on}

-- row under construction: its places, its own cells, the recorded ends, the cells that hang into the next row, and the
-- position at which the next place begins
pub record RowSoFar : Type 0 where
  pub places : List Place
  pub own : List PositionedCell
  pub told : List ℕ
  pub kept : List PositionedCell
  pub cursor : ℕ

-- a row without places
abbrev pub empty_row : RowSoFar
empty_row = record { places = []; own = []; told = []; kept = []; cursor = 0 }

-- row with one more place, from the cursor to `end`
abbrev pub put_to : CellKind → ℕ → RowSoFar → Option RowSoFar
put_to kind end built =
    if nat_lt end (2 ^ 128) then Some
    (record built { places = built.places ++ (record { kind = kind; start = built.cursor; end = end }) ∷ []; cursor = end }) else None

-- row with one more place, of `columns` columns from the cursor on
abbrev pub put : CellKind → ℕ → RowSoFar → Option RowSoFar
put kind columns built = put_to kind (built.cursor + columns) built

-- row with the end of its last place recorded
abbrev pub telling_end : RowSoFar → RowSoFar
telling_end built = record built { told = built.told ++ built.cursor ∷ [] }

-- row with one more own cell
abbrev pub owning : PositionedCell → RowSoFar → RowSoFar
owning c built = record built { own = built.own ++ c ∷ [] }

-- row that also keeps those of the cells that hang into the row after `row`
abbrev pub keeping : ℕ → List PositionedCell → RowSoFar → RowSoFar
keeping row cs built = record built { kept = built.kept ++ filter (hangs_into (row + 1)) cs }

-- row with a placeholder at the cursor; its end is recorded if it is displaced, past its cell's own column
abbrev pub with_hanging : PositionedCell → RowSoFar → Option RowSoFar
with_hanging h built = put Placeholder h.span.colspan built >>= λ l. Some (if nat_lt h.column built.cursor then telling_end l else l)

-- row with the placeholders that are due
abbrev pub with_due : ℕ → List PositionedCell → RowSoFar → Option RowSoFar
with_due row [] built = Some built
with_due row (h ∷ hs) built =
    if nat_le h.column built.cursor then (with_hanging h built >>= λ l. with_due row hs (keeping row (h ∷ []) l)) else Some built

-- row of the number `row` with an own cell at the cursor
abbrev pub with_own : ℕ → Span → RowSoFar → Option RowSoFar
with_own row s built =
    let c : PositionedCell = record { row = row; column = built.cursor; span = s } in
    put Cell s.colspan built >>= λ l. Some (keeping row (c ∷ []) (owning c (telling_end l)))

-- row with a gap up to a column, if the cursor isn't there yet
abbrev pub with_gap : ℕ → RowSoFar → Option RowSoFar
with_gap column built = if nat_lt built.cursor column then put_to Gap column built else Some built

-- row with the placeholders after its own cells
abbrev pub with_rest : List PositionedCell → RowSoFar → Option RowSoFar
with_rest [] built = Some built
with_rest (h ∷ hs) built = with_gap h.column built >>= λ l. with_hanging h l >>= λ m. with_rest hs m

-- row with its own cells and all placeholders
abbrev pub with_row : ℕ → List Span → List PositionedCell → RowSoFar → Option RowSoFar
with_row row [] hs built = with_rest hs built >>= λ l. Some (keeping row hs l)
with_row row (s ∷ ss) hs built = with_due row hs built >>= λ l. with_own row s l >>= λ m. with_row row ss (not_due built.cursor hs) m

-- ---- the recorded ends of a row: those of its own cells and of displaced placeholders

abbrev pub displaced_end : ℕ → PositionedCell → List ℕ
displaced_end start h = if nat_lt h.column start then (start + h.span.colspan) ∷ [] else []

abbrev pub due_told : ℕ → List PositionedCell → List ℕ
due_told cursor [] = []
due_told cursor (h ∷ hs) = if nat_le h.column cursor then displaced_end cursor h ++ due_told (cursor + h.span.colspan) hs else []

abbrev pub rest_told : ℕ → List PositionedCell → List ℕ
rest_told cursor [] = []
rest_told cursor (h ∷ hs) = let column = max cursor h.column in displaced_end column h ++ rest_told (column + h.span.colspan) hs

abbrev pub row_told : ℕ → List PositionedCell → List Span → List ℕ
row_told cursor hs [] = rest_told cursor hs
row_told cursor hs (s ∷ ss) = let next = due_end cursor hs + s.colspan in due_told cursor hs ++ next ∷ row_told next (not_due cursor hs) ss

-- ---- one row after another

-- whether each cell's own column is at least `n`
abbrev pub AllFrom : ℕ → List PositionedCell → Type 0
AllFrom n [] = Unit {0}
AllFrom n (c ∷ cs) = (n ≤ c.column) × AllFrom n cs

-- whether cells are in order of own column
abbrev pub IsByColumn : List PositionedCell → Type 0
IsByColumn [] = Unit {0}
IsByColumn (c ∷ cs) = AllFrom c.column cs × IsByColumn cs

-- the last placed row, and the cells that hang into the next one
pub record Placing : Type 0 where
  pub places : List Place
  pub own : List PositionedCell
  pub told : List ℕ
  pub hanging : List PositionedCell

-- placement before the first row
abbrev pub nothing_placed : Placing
nothing_placed = record { places = []; own = []; told = []; hanging = [] }

-- whether each place of a row ends below 2^128
abbrev pub row_fits : List Place → Bool
row_fits places = list_all (λ p. nat_lt p.end (2 ^ 128)) places

-- placement of the row `row` with these own cells; `None` if a place would end past 2^128 - 1
abbrev pub with_next_row : ℕ → List Span → Placing → Option Placing
with_next_row row cells done =
    let hung = done.hanging in
    let own = own_from row 0 hung cells in
    if row_fits (row_from 0 hung cells) then Some (record {
      places = row_from 0 hung cells;
      own = own;
      told = row_told 0 hung cells;
      hanging = hanging (row + 1) (hung ++ own);
    }) else None

-- whether `next` places the next row below the table's own rows: all hanging cells are in it, and those that don't end first
-- hang into the row after it
pub record IsNextBottom (done next : Placing) : Type 0 where
  pub row_end : ℕ
  pub rows : bottom_rows done.hanging ≡ next.places ∷ bottom_rows next.hanging
  pub places : next.places ≡ rest_from 0 done.hanging
  pub fits : row_fits next.places ≡ true
  pub told : next.told ≡ rest_told 0 done.hanging
  pub hangs_on : next.hanging ≡ filter (hangs_into row_end) done.hanging
  pub fewer : length next.hanging < length done.hanging

-- rows of places; `None` if one doesn't fit
abbrev pub fitting_positions : List (List Place) → Option (List (List Place))
fitting_positions rows = if positions_fit rows then Some rows else None

-- ---- the rows of a table from `row` on, where `hung` are the cells that hang into `row`

-- places of the rows from `row` on, without numbers of columns
abbrev pub places_ahead : CellGrid → ℕ → List PositionedCell → List (List Place)
places_ahead g row hung = rows_from row hung (drop row (spans_on g))

-- places of the rows from `row` on, with numbers of columns
abbrev pub rows_ahead : CellGrid → ℕ → List PositionedCell → List (List PlacedCell)
rows_ahead g row hung = map (map (numbered g.edges)) (places_ahead g row hung)

-- whether these are rows of the table: they fit, no place in them begins after its end, and their own cells are the table's
pub record AreAhead (g : CellGrid) (row : ℕ) (hung : List PositionedCell) : Type 0 where
  pub table : IsCellGrid g
  pub own : drop row (own_rows_from 0 [] (spans_on g)) ≡ own_rows_from row hung (drop row (spans_on g))
  pub within : row ≤ length g.rows
  pub fits : positions_fit (places_ahead g row hung) ≡ true
  pub ordered : All (All (λ p. p.start ≤ p.end)) (places_ahead g row hung)
