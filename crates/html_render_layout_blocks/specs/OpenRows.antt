-- A row of a table: its cells, placeholders and gaps over the table's columns.
use Rattle.std.specs.Prelude.{ℕ, ◌+◌, ◌-◌, ◌==◌, Bool, true, false, List, [], ◌∷◌, ◌++◌, length, sum, take, drop, find}
use Rattle.std.specs.Prelude.{Option, Some, None, flat_map, option_and_then, option_map, option_to_list, if◌then◌else◌}
use Rattle.std.specs.List.{after_first, before_first, list_any}
use Rattle.html_render_parts.specs.declared.table.CellKind.{CellKind}
use Rattle.html_render_parts.specs.declared.table.CellKind.TheVariants.{Placeholder}
use Rattle.html_render_parts.specs.declared.table.PlacedCell.{PlacedCell}
use Rattle.html_render_parts.specs.TableCells.{is_cell}
use Rattle.html_render_layout_pictures.specs.Picture.{KeptCell, TableRow}
use Rattle.html_render_layout_blocks.specs.declared.block.rows.RowPlace.{RowPlace}

-- Columns of text of a cell over these columns, with the separators that it covers. None if none of its columns has a
-- width.
abbrev pub cell_width : List ℕ → Option ℕ
cell_width columns = if sum columns == 0 then None else Some (sum columns + (length columns - 1))

-- Whether a place has a cell of an earlier row.
abbrev pub is_placeholder : CellKind → Bool
is_placeholder Placeholder = true
is_placeholder _ = false

-- Places of a row over columns of these widths.
abbrev pub places : (widths : List ℕ) → List PlacedCell → List RowPlace
places widths [] = []
places widths (s ∷ ss) = record { is_cell = is_cell s.kind; width = cell_width (take s.columns widths) } ∷ places (drop s.columns widths) ss

-- Columns of the next cell of a row. None if it is skipped or there is none.
abbrev pub next_width : List RowPlace → Option ℕ
next_width ps = option_and_then (λ (p : RowPlace). p.width) (find (λ p. p.is_cell) ps)

-- Empty cells of places, without those that are skipped.
abbrev pub empty_cells : {T M : Type 0} → List RowPlace → List (KeptCell T M)
empty_cells ps = flat_map (λ p. option_to_list (option_map (λ w. record { width = w; lines = []; marks = [] }) p.width)) ps

-- An open row: the places ahead, the kept cells before them, and whether the whole row has a placeholder.
pub record OpenRow (T M : Type 0) : Type 0 where
  pub ahead : List RowPlace
  pub cells : List (KeptCell T M)
  pub placeholder : Bool

-- Row with these cells, placeholders and gaps ahead, over columns of these widths.
abbrev pub open_row : {T M : Type 0} → (widths : List ℕ) → List PlacedCell → OpenRow T M
open_row widths cells = record { ahead = places widths cells; cells = []; placeholder = list_any (λ s. is_placeholder s.kind) cells }

-- Row after its next cell, which is kept or, with an empty list, skipped. Places before it are empty cells.
abbrev pub past_cell : {T M : Type 0} → OpenRow T M → List (KeptCell T M) → OpenRow T M
past_cell r cell =
    record r { ahead = after_first (λ p. p.is_cell) r.ahead; cells = r.cells ++ empty_cells (before_first (λ p. p.is_cell) r.ahead) ++ cell }

-- The whole row. Places ahead are empty cells.
abbrev pub whole_row : {T M : Type 0} → OpenRow T M → TableRow T M
whole_row r = record { cells = r.cells ++ empty_cells r.ahead; has_placeholder = r.placeholder }
