-- The visible characters of cells and rows.
use Rattle.std.specs.Prelude.{ℕ, ◌==◌, List, count_by, flat_map}
use Rattle.html_render_layout_lines.specs.Visible.{visible_in_lines}
use Rattle.html_render_layout_pictures.specs.Picture.{KeptCell, TableRow}

-- how often a character stands in a list
abbrev pub count : ℕ → List ℕ → ℕ
count c cs = count_by (λ x. x == c) cs

-- the visible characters of cells' lines, cell by cell
abbrev pub visible_in_cells : {T M : Type 0} → List (KeptCell T M) → List ℕ
visible_in_cells {T} {M} cells = flat_map (λ (c : KeptCell T M). visible_in_lines c.lines) cells

-- those of rows, drawn or not
abbrev pub visible_in_rows : {T M : Type 0} → List (TableRow T M) → List ℕ
visible_in_rows {T} {M} rows = flat_map (λ (r : TableRow T M). visible_in_cells r.cells) rows
