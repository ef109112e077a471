-- A TABLE AS ONE FUNCTION of the finished blocks of its cells. `CellByCell` lays out the same table by operations, as the
-- laws of this crate state.
use Rattle.std.specs.Prelude.{ℕ, ◌==◌, ◌||◌, ◌&&◌, not, Bool, false, List, [], ◌∷◌, ◌++◌, map, filter, flat_map, drop, slice_index_or}
use Rattle.std.specs.Prelude.{fold, Option, Some, None, if◌then◌else◌}
use Rattle.std.specs.List.{list_any}
use Rattle.std.specs.Option.{option_map_or}
use Rattle.html_render_layout_lines.specs.Line.{Line, is_empty}
use Rattle.html_render_parts_widths.specs.declared.shares.ColumnNeed.{ColumnNeed}
use Rattle.html_render_parts_widths.specs.Shares.{widths_across}
use Rattle.html_render_parts.specs.declared.table.PlacedCell.{PlacedCell}
use Rattle.html_render_parts.specs.TableCells.{CellGrid, rows_on}
use Rattle.html_render_layout_buffer.specs.Marked.{marked_before, marked_behind}
use Rattle.html_render_layout_buffer.specs.Padding.{repeated}
use Rattle.html_render_layout_pictures.specs.declared.borders.TheConstants.{BORDERS}
use Rattle.html_render_layout_pictures.specs.Picture.{KeptCell, TableRow, picture}
use Rattle.html_render_layout_blocks.specs.declared.block.rows.RowPlace.{RowPlace}
use Rattle.html_render_layout_blocks.specs.OpenRows.{is_placeholder, places}
use Rattle.html_render_layout_blocks.specs.RowSteps.{empty_cell}
use Rattle.html_render_layout_blocks.specs.Tables.{frame_of}

-- A finished block: its lines, and the marks that wait after them.
pub record FinishedBlock (T M : Type 0) : Type 0 where
  pub lines : List (Line T M)
  pub marks : List M

-- Finished block without lines and marks.
abbrev pub empty_finished : {T M : Type 0} → FinishedBlock T M
empty_finished = record { lines = []; marks = [] }

-- A table before its cells are laid out: tag of its borders, whether they are drawn, width of its block, widths of its
-- columns, and the cells, placeholders and gaps of each row. `columns` is None if the table is stacked.
pub record TablePlan (T : Type 0) : Type 0 where
  pub tag : T
  pub borders : Bool
  pub block_width : ℕ
  pub columns : Option (List ℕ)
  pub rows : List (List PlacedCell)

-- Plan of a table in a block of a width. The table is stacked if that is requested, or if its columns don't fit side by
-- side.
abbrev pub table_plan : {T : Type 0} → (block_width : ℕ) → T → (borders stacked : Bool) → CellGrid → List ColumnNeed → TablePlan T
table_plan block_width tag borders stacked grid needs = record {
  tag = tag;
  borders = borders;
  block_width = block_width;
  columns = if stacked then None else widths_across block_width needs;
  rows = rows_on grid;
}

-- Widths of a row's own cells, from left to right. None for a cell that is skipped.
abbrev pub own_widths : List RowPlace → List (Option ℕ)
own_widths row = map (λ (p : RowPlace). p.width) (filter (λ (p : RowPlace). p.is_cell) row)

-- Width of the block of a cell, by the numbers of its row and of the cell in it, from 0. None if the cell is skipped.
-- The cells of a stacked table are as wide as its block.
abbrev pub cell_block_width : {T : Type 0} → TablePlan T → (row cell : ℕ) → Option ℕ
cell_block_width t row cell =
    option_map_or (λ columns. slice_index_or (own_widths (places columns (slice_index_or t.rows row []))) cell None) t.columns (Some t.block_width)

module _ {T M : Type 0} where
  -- ---- Side by side

  -- Kept cell of a place with a finished block, unless the place is skipped.
  abbrev pub kept_cell : Option ℕ → FinishedBlock T M → List (KeptCell T M)
  kept_cell None c = []
  kept_cell (Some width) c = record { width = width; lines = c.lines; marks = c.marks } ∷ []

  -- Kept cells of a row: each own cell in its place, and empty cells in all other places. There is a finished block for
  -- each own cell, also for one that is skipped.
  abbrev pub kept_cells : List RowPlace → List (FinishedBlock T M) → List (KeptCell T M)
  kept_cells [] cells = []
  kept_cells (p ∷ ps) cells =
      if p.is_cell then kept_cell p.width (slice_index_or cells 0 empty_finished) ++ kept_cells ps (drop 1 cells)
      else empty_cell p.width ++ kept_cells ps cells

  -- Row of a picture, over columns of these widths.
  abbrev pub table_row : (widths : List ℕ) → List PlacedCell → List (FinishedBlock T M) → TableRow T M
  table_row widths row cells =
      record { cells = kept_cells (places widths row) cells; has_placeholder = list_any (λ s. is_placeholder s.kind) row }

  -- Rows of a picture. Rows below those with cells of their own have only placeholders and gaps.
  abbrev pub table_rows : (widths : List ℕ) → List (List PlacedCell) → List (List (FinishedBlock T M)) → List (TableRow T M)
  table_rows widths [] cells = []
  table_rows widths (row ∷ rows) cells = table_row widths row (slice_index_or cells 0 []) ∷ table_rows widths rows (drop 1 cells)

  -- Finished block with a table of these column widths at its end: the picture of its rows. Marks that wait in the block
  -- precede the picture.
  abbrev pub with_picture : TablePlan T → (widths : List ℕ) → List (List (FinishedBlock T M)) → FinishedBlock T M → FinishedBlock T M
  with_picture t widths cells outer =
      let p = picture (frame_of t.tag t.borders widths) outer.marks (table_rows widths t.rows cells) in
      record { lines = outer.lines ++ p.0; marks = p.1 }

  -- ---- Stacked

  -- Finished block with lines below its own. Its waiting marks are at the front of the first line added, the other marks at
  -- the end of the last one. Without lines all of them wait.
  abbrev pub lines_below : FinishedBlock T M → List (Line T M) → List M → FinishedBlock T M
  lines_below a [] marks = record a { marks = a.marks ++ marks }
  lines_below a (l ∷ ls) marks = record { lines = a.lines ++ marked_before a.marks (marked_behind marks (l ∷ ls)); marks = [] }

  -- Finished block with another one below it.
  abbrev pub with_below : FinishedBlock T M → FinishedBlock T M → FinishedBlock T M
  with_below a c = lines_below a c.lines c.marks

  -- Line of one character as wide as the table's block. There is no line without borders, or at width 0.
  abbrev pub full_line : TablePlan T → (character : ℕ) → List (FinishedBlock T M)
  full_line t character =
      if t.borders && not (t.block_width == 0) then record { lines = repeated t.tag character t.block_width ∷ []; marks = [] } ∷ [] else []

  -- Cells of a row. A line of slashes separates a cell from the cells above it in its row, if both have lines.
  -- `lines_above` says whether a cell above has lines.
  abbrev pub separated_cells : TablePlan T → (lines_above : Bool) → List (FinishedBlock T M) → List (FinishedBlock T M)
  separated_cells t lines_above [] = []
  separated_cells t lines_above (c ∷ cs) =
      let has_lines = not (is_empty c.lines) in
      (if lines_above && has_lines then full_line t BORDERS.slash else []) ++ c ∷ separated_cells t (lines_above || has_lines) cs

  -- Cells of a row, with a border below it if it has lines.
  abbrev pub stacked_row : TablePlan T → List (FinishedBlock T M) → List (FinishedBlock T M)
  stacked_row t cells =
      separated_cells t false cells ++ (if list_any (λ (c : FinishedBlock T M). not (is_empty c.lines)) cells then full_line t BORDERS.line else [])

  -- Cells and borders of a stacked table, from top to bottom. A border precedes the first row.
  abbrev pub stacked_blocks : TablePlan T → List (List (FinishedBlock T M)) → List (FinishedBlock T M)
  stacked_blocks t rows = full_line t BORDERS.line ++ flat_map (stacked_row t) rows

  -- ---- THE TABLE

  -- Finished block with a table at its end, by the finished blocks of the table's cells, row by row.
  abbrev pub with_whole_table : TablePlan T → List (List (FinishedBlock T M)) → FinishedBlock T M → FinishedBlock T M
  with_whole_table t cells outer =
      option_map_or (λ widths. with_picture t widths cells outer) t.columns (fold with_below outer (stacked_blocks t cells))
