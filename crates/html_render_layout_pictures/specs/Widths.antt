-- How wide a row is, and which cells and rows keep to a width.
use Rattle.std.specs.Prelude.{◌≡◌, ℕ, ◌+◌, ◌≤◌, List, [], ◌∷◌, All, sum_by}
use Rattle.html_render_layout_lines.specs.Line.{Line, columns, AllWithinWidth}
use Rattle.html_render_layout_pictures.specs.Picture.{KeptCell, TableRow}

-- the columns of a row: its cells' widths, and one for each separator between them
abbrev pub row_width : {T M : Type 0} → List (KeptCell T M) → ℕ
row_width [] = 0
row_width {T} {M} (c ∷ cs) = c.width + sum_by (λ (d : KeptCell T M). 1 + d.width) cs

-- no line of a cell is wider than the cell
abbrev pub KeepsToWidth : {T M : Type 0} → KeptCell T M → Type 0
KeepsToWidth c = AllWithinWidth c.width c.lines

-- a row of at most `w` columns, whose cells' lines keep to their widths
abbrev pub RowWithin : {T M : Type 0} → ℕ → TableRow T M → Type 0
RowWithin w row = All KeepsToWidth row.cells × (row_width row.cells ≤ w)

-- each line has this width
abbrev pub AllAsWide : {T M : Type 0} → ℕ → List (Line T M) → Type 0
AllAsWide {T} {M} width lines = All (λ (l : Line T M). columns l ≡ width) lines
