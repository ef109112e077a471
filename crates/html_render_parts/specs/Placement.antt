-- Placement of a table's cells in its rows.
use Rattle.std.specs.Prelude.{ℕ, ◌+◌, Bool, List, [], ◌∷◌, ◌++◌, map, max, filter, nat_lt, nat_le, if◌then◌else◌}
use Rattle.std.specs.Global.{Vec}
use Rattle.html_render_parts.specs.declared.table.Span.{Span}
use Rattle.html_render_parts.specs.declared.table.CellKind.{CellKind}
use Rattle.html_render_parts.specs.declared.table.CellKind.TheVariants.{Cell, Placeholder, Gap}
use Rattle.html_render_parts.specs.declared.table.placement.Place.{Place}
use Rattle.html_render_parts.specs.declared.table.placement.PositionedCell.{PositionedCell}

-- lists of the elements of vectors
abbrev pub lists : {X : Type 0} → List (Vec X) → List (List X)
lists vs = map (λ v. v.items) vs

-- ---- order by own column

-- `c` inserted before the first cell whose own column isn't smaller
abbrev pub by_column_with : PositionedCell → List PositionedCell → List PositionedCell
by_column_with c [] = c ∷ []
by_column_with c (d ∷ ds) = if nat_le c.column d.column then c ∷ d ∷ ds else d ∷ by_column_with c ds

-- cells sorted by own column, stably
abbrev pub by_column : List PositionedCell → List PositionedCell
by_column [] = []
by_column (c ∷ cs) = by_column_with c (by_column cs)

-- ---- cells that hang into a row

-- end of a cell: the row after the last one that it spans
abbrev pub end_of : PositionedCell → ℕ
end_of c = c.row + c.span.rowspan

-- cells that hang into a row, of the cells above it: those that end below it, in order of own column
abbrev pub hanging : ℕ → List PositionedCell → List PositionedCell
hanging row above = filter (λ c. nat_lt row (end_of c)) (by_column above)

-- ---- one row, from a cursor on

-- place of `columns` columns from `start` on
abbrev pub place_from : CellKind → ℕ → ℕ → Place
place_from kind start columns = record { kind = kind; start = start; end = start + columns }

-- placeholders of the hanging cells that are due: the first ones, as long as the own column is at most the cursor. Each is
-- at the cursor, which moves past it.
abbrev pub due_places : ℕ → List PositionedCell → List Place
due_places cursor [] = []
due_places cursor (h ∷ hs) = if nat_le h.column cursor then place_from Placeholder cursor h.span.colspan ∷ due_places (cursor + h.span.colspan) hs else []

-- cursor after the placeholders that are due
abbrev pub due_end : ℕ → List PositionedCell → ℕ
due_end cursor [] = cursor
due_end cursor (h ∷ hs) = if nat_le h.column cursor then due_end (cursor + h.span.colspan) hs else cursor

-- hanging cells that aren't due yet
abbrev pub not_due : ℕ → List PositionedCell → List PositionedCell
not_due cursor [] = []
not_due cursor (h ∷ hs) = if nat_le h.column cursor then not_due (cursor + h.span.colspan) hs else h ∷ hs

-- gap from the cursor to a column; none if the cursor is there or past it
abbrev pub gap_to : ℕ → ℕ → List Place
gap_to cursor column = if nat_lt cursor column then (record { kind = Gap; start = cursor; end = column }) ∷ [] else []

-- places after the row's own cells: each placeholder at the greater of the cursor and its cell's own column, after a gap if
-- there is room
abbrev pub rest_from : ℕ → List PositionedCell → List Place
rest_from cursor [] = []
rest_from cursor (h ∷ hs) =
    let column = max cursor h.column in
    gap_to cursor h.column ++ place_from Placeholder column h.span.colspan ∷ rest_from (column + h.span.colspan) hs

-- places of a row: each own cell after the placeholders that are due, and then the other placeholders
abbrev pub row_from : ℕ → List PositionedCell → List Span → List Place
row_from cursor hs [] = rest_from cursor hs
row_from cursor hs (s ∷ ss) =
    let column = due_end cursor hs in
    due_places cursor hs ++ place_from Cell column s.colspan ∷ row_from (column + s.colspan) (not_due cursor hs) ss

-- own cells of a row, each at its own column
abbrev pub own_from : ℕ → ℕ → List PositionedCell → List Span → List PositionedCell
own_from row cursor hs [] = []
own_from row cursor hs (s ∷ ss) =
    let column = due_end cursor hs in
    (record { row = row; column = column; span = s }) ∷ own_from row (column + s.colspan) (not_due cursor hs) ss

-- ---- all rows

-- `n` inserted in a rising list, unless the list has it
abbrev pub rising_with : ℕ → List ℕ → List ℕ
rising_with n [] = n ∷ []
rising_with n (m ∷ ms) = if nat_lt n m then n ∷ m ∷ ms else (if nat_lt m n then m ∷ rising_with n ms else m ∷ ms)

-- numbers of a list, each once, rising
abbrev pub rising : List ℕ → List ℕ
rising [] = []
rising (n ∷ ns) = rising_with n (rising ns)

-- rows below the last one: one for each distinct end of a cell that hangs there, rising, with the placeholders of the cells
-- that reach that end
abbrev pub bottom_rows : List PositionedCell → List (List Place)
bottom_rows hung = map (λ n. rest_from 0 (filter (λ c. nat_le n (end_of c)) hung)) (rising (map end_of hung))

-- places of the rows from `row` on, and of those below the last one; `hung` are the cells that hang into `row`, in order of
-- own column
abbrev pub rows_from : ℕ → (hung : List PositionedCell) → List (List Span) → List (List Place)
rows_from row hung [] = bottom_rows hung
rows_from row hung (cells ∷ more) = row_from 0 hung cells ∷ rows_from (row + 1) (hanging (row + 1) (hung ++ own_from row 0 hung cells)) more

-- places of all rows of a table, and of the rows below the last one
abbrev pub placed_rows : List (List Span) → List (List Place)
placed_rows rows = rows_from 0 [] rows
