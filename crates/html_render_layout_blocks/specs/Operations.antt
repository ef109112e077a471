-- Operations on blocks of which a layout consists.
use Rattle.std.specs.Prelude.{ℕ, Bool, List, Option}
use Rattle.html_render_parts_widths.specs.declared.shares.ColumnNeed.{ColumnNeed}
use Rattle.html_render_parts.specs.TableCells.{CellGrid}
use Rattle.html_render_layout_lines.specs.declared.character.TextStyle.{TextStyle}

-- Operations of a layout. B are the blocks, T the tags and M the marks. `None` means "too narrow", and of `cell_block`
-- "skipped".
pub record Operations (B T M : Type 0) : Type 0 where
  pub add_inline_text : B → TextStyle T → List ℕ → Option B
  pub add_mark : B → M → B
  pub new_line : B → Option B
  pub new_line_hard : B → Option B
  pub start_block : B → Option B
  pub end_block : B → B
  -- with the tag and the prefixes of the lines that are appended later, the columns of the prefix and the minimum width
  pub sub_block : B → T → (first later : List ℕ) → (prefix min_width : ℕ) → Option B
  pub append : B → B → T → List ℕ → List ℕ → Option B  -- a tag, and the prefixes of the first line and of the others
  pub begin_table : B → T → (borders stacked : Bool) → CellGrid → List ColumnNeed → Option B  -- with the tag of the borders
  pub begin_row : B → B
  pub cell_block : B → Option B  -- for the next cell of the row; `None` if that is skipped
  pub add_cell : B → B → Option B
  pub skip_cell : B → B
  pub end_row : B → Option B
  pub end_table : B → B
