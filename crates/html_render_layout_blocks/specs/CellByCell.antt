-- A TABLE CELL BY CELL: operations that begin a table in a block, add finished blocks as its cells, row by row, and end
-- it.
use Rattle.std.specs.Prelude.{Bool, List, [], ◌∷◌, Option, Some, None, option_map}
use Rattle.html_render_dom_values.specs.Outcome.{◌>>=◌}
use Rattle.html_render_parts_widths.specs.declared.shares.ColumnNeed.{ColumnNeed}
use Rattle.html_render_parts.specs.TableCells.{CellGrid}
use Rattle.html_render_layout_blocks.specs.Block.{Block, operations}
use Rattle.html_render_layout_blocks.specs.Parts.{Parts}
use Rattle.html_render_layout_blocks.specs.WholeTable.{FinishedBlock}

module _ {P R T M : Type 0} (parts : Parts P R T M) where
  -- Lines of a flushed block, and its waiting marks.
  abbrev pub finished_of : Block P R T M → FinishedBlock T M
  finished_of b = record { lines = b.lines; marks = parts.waiting b.paragraph }

  -- Flushed block with the lines and marks of a finished block instead of its own, without an open table.
  abbrev pub with_finished : Block P R T M → FinishedBlock T M → Block P R T M
  with_finished b f = record b { lines = f.lines; paragraph = parts.next b.paragraph f.marks; table = None }

  -- Block after the next cell of its row. `inner` is the empty block for the cell, None if the cell is skipped.
  abbrev pub added_cell : Block P R T M → FinishedBlock T M → (inner : Option (Block P R T M)) → Option (Block P R T M)
  added_cell b cell None = Some ((operations parts).skip_cell b)
  added_cell b cell (Some inner) = (operations parts).add_cell b (with_finished inner cell)

  -- Block after cells of its open row.
  abbrev pub added_cells : Block P R T M → List (FinishedBlock T M) → Option (Block P R T M)
  added_cells b [] = Some b
  added_cells b (c ∷ cs) = added_cell b c ((operations parts).cell_block b) >>= λ d. added_cells d cs

  -- Block after the next row of its table.
  abbrev pub added_row : Block P R T M → List (FinishedBlock T M) → Option (Block P R T M)
  added_row b cells = added_cells ((operations parts).begin_row b) cells >>= λ c. (operations parts).end_row c

  -- Block after rows of its table.
  abbrev pub added_rows : Block P R T M → List (List (FinishedBlock T M)) → Option (Block P R T M)
  added_rows b [] = Some b
  added_rows b (r ∷ rs) = added_row b r >>= λ c. added_rows c rs

  -- Block after rows of its table and cells of the next row.
  abbrev pub inside_row : Block P R T M → List (List (FinishedBlock T M)) → List (FinishedBlock T M) → Option (Block P R T M)
  inside_row b rows cells = added_rows b rows >>= λ c. added_cells ((operations parts).begin_row c) cells

  -- Block after a whole table, from `begin_table` to `end_table`.
  abbrev pub added_table : Block P R T M → T → (borders stacked : Bool) → CellGrid → List ColumnNeed → List (List (FinishedBlock T M)) →
      Option (Block P R T M)
  added_table b tag borders stacked grid needs rows =
      (operations parts).begin_table b tag borders stacked grid needs >>= λ c. option_map (operations parts).end_table (added_rows c rows)
