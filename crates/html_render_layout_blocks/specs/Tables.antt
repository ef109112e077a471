-- The open table of a block: side by side or stacked.
use Rattle.std.specs.Prelude.{ℕ, ◌+◌, ◌-◌, ◌==◌, Bool, false, not, List, [], ◌∷◌, ◌++◌, sum, fold, count_by, Option, Some, None, drop, slice_index_or}
use Rattle.std.specs.Option.{option_map_or}
use Rattle.html_render_parts.specs.declared.table.PlacedCell.{PlacedCell}
use Rattle.html_render_layout_lines.specs.Line.{Line}
use Rattle.html_render_layout_pictures.specs.declared.picture.Frame.{Frame}
use Rattle.html_render_layout_pictures.specs.Picture.{KeptCell, TableRow}
use Rattle.html_render_layout_blocks.specs.declared.block.tables.OpenTable.{OpenTable}
use Rattle.html_render_layout_blocks.specs.declared.block.tables.OpenTable.TheVariants.{Across, Stacked}
use Rattle.html_render_layout_blocks.specs.declared.block.cells.CellPlace.{CellPlace}
use Rattle.html_render_layout_blocks.specs.declared.block.cells.CellPlace.TheVariants.{InRow, InStack, Below}
use Rattle.html_render_layout_blocks.specs.OpenRows.{OpenRow, next_width, open_row, past_cell, whole_row}
use Rattle.html_render_layout_blocks.specs.Parts.{Parts}

-- A picture as the list of all its rows, after marks that wait.
pub record Rows (T M : Type 0) : Type 0 where
  pub frame : Frame T
  pub waiting : List M
  pub rows : List (TableRow T M)

-- Frame of a table. Its width is that of the columns, and of the separators between those that have a width.
abbrev pub frame_of : {T : Type 0} → T → (borders : Bool) → List ℕ → Frame T
frame_of tag borders widths = record { borders = borders; width = sum widths + (count_by (λ w. not (w == 0)) widths - 1); tag = tag }

-- Table whose next row, the first of those ahead, is open. Side by side, a row that is open already stays open.
abbrev pub with_row_open : {P T M : Type 0} → OpenTable P T M → OpenTable P T M
with_row_open (Across picture widths ahead None) = Across picture widths (drop 1 ahead) (Some (open_row widths (slice_index_or ahead 0 [])))
with_row_open (Across picture widths ahead (Some row)) = Across picture widths ahead (Some row)
with_row_open (Stacked border has_lines) = Stacked border false

-- Columns of the next cell's block, in a block of a width. None if the cell is skipped.
abbrev pub next_cell_width : {P T M : Type 0} → (width : ℕ) → Option (OpenTable P T M) → Option ℕ
next_cell_width width (Some (Across picture widths ahead (Some row))) = next_width row.ahead
next_cell_width width _ = Some width

-- Table whose next cell is skipped, if a row is open.
abbrev pub skipped : {P T M : Type 0} → OpenTable P T M → OpenTable P T M
skipped (Across picture widths ahead (Some row)) = Across picture widths ahead (Some (past_cell row []))
skipped table = table

-- Table with its next cell, if a row is open.
abbrev pub with_next : {P T M : Type 0} → KeptCell T M → OpenTable P T M → OpenTable P T M
with_next cell (Across picture widths ahead (Some row)) = Across picture widths ahead (Some (past_cell row (cell ∷ [])))
with_next cell table = table

-- Place of the next cell.
abbrev pub cell_place : {P T M : Type 0} → Option (OpenTable P T M) → CellPlace T
cell_place (Some (Across picture widths ahead (Some row))) = InRow
cell_place (Some (Stacked border has_lines)) = InStack border has_lines
cell_place _ = Below

module _ {P R T M : Type 0} (parts : Parts P R T M) where
  -- Picture with the open row, if there is one.
  abbrev pub with_open : R → Option (OpenRow T M) → R
  with_open picture row = option_map_or (λ r. parts.with_row picture (whole_row r)) row picture

  -- Table whose open row, if there is one, is drawn.
  abbrev pub with_row_over : OpenTable R T M → OpenTable R T M
  with_row_over (Across picture widths ahead row) = Across (with_open picture row) widths ahead None
  with_row_over table = table

  -- Picture with the rows ahead, whose cells are empty. After all of the table's own rows, these are the rows below
  -- them, in which no cell begins.
  abbrev pub with_ahead : (widths : List ℕ) → (ahead : List (List PlacedCell)) → R → R
  with_ahead widths ahead picture = fold (λ p cells. parts.with_row p (whole_row (open_row widths cells))) picture ahead

  -- Lines with those of an ended table at their end, and the marks that wait after them. The lines of a stacked table are
  -- among them already.
  abbrev pub with_table : List (Line T M) → OpenTable R T M → List (Line T M) × List M
  with_table lines (Across picture widths ahead row) =
      let p = parts.drawn (with_ahead widths ahead (with_open picture row)) in
      (lines ++ p.0, p.1)
  with_table lines (Stacked border has_lines) = (lines, [])
