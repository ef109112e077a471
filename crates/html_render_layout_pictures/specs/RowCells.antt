-- Cells of a row whose lines stand one after another.
use Rattle.std.specs.Prelude.{ℕ, ◌+◌, List, [], ◌∷◌, take, drop, fold, max}
use Rattle.html_render_layout_lines.specs.Line.{Line}
use Rattle.html_render_layout_pictures.specs.declared.cells.RowCell.{RowCell}
use Rattle.html_render_layout_pictures.specs.Picture.{KeptCell}

-- a cell with the first of these lines
abbrev pub cell_at : {T M : Type 0} → RowCell M → List (Line T M) → KeptCell T M
cell_at c ls = record { width = c.width; lines = take c.count ls; marks = c.marks.items }

-- cells, each with the lines after those of the cell before it
abbrev pub cells_of : {T M : Type 0} → List (RowCell M) → List (Line T M) → List (KeptCell T M)
cells_of [] ls = []
cells_of (c ∷ cs) ls = cell_at c ls ∷ cells_of cs (drop c.count ls)

-- the number of lines of cells
abbrev pub line_total : {M : Type 0} → List (RowCell M) → ℕ
line_total [] = 0
line_total (c ∷ cs) = c.count + line_total cs

-- the height of a row of cells: the highest cell's, and at least 1
abbrev pub counted_height : {M : Type 0} → List (RowCell M) → ℕ
counted_height {M} cs = fold (λ h (c : RowCell M). max h c.count) 1 cs
