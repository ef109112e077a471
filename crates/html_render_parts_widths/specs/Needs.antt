-- The widths that the columns of a table need for its cells.
use Rattle.std.specs.Prelude.{ℕ, ◌+◌, ◌-◌, ◌/◌, ◌≤◌, ◌<◌, List, All, map, sum, slice_range}
use Rattle.std.specs.List.{range_with_len}
use Rattle.html_render_parts_widths.specs.declared.needs.CellNeed.{CellNeed}
use Rattle.html_render_parts_widths.specs.declared.shares.ColumnNeed.{ColumnNeed}
use Rattle.html_render_parts_widths.specs.declared.spans.Span.{Span}
use Rattle.html_render_parts_widths.specs.Spans.{greatest_at}

-- the part of a value that each column of a cell gets, rounded down
abbrev pub part : CellNeed → (value : ℕ) → Span
part c value = record { start = c.start; count = c.count; value = value / c.count }

-- the need of a column: the greatest part of a preferred width, and of a minimum width, of a cell that covers it; its words
-- aren't measured
abbrev pub need_at : List CellNeed → (column : ℕ) → ColumnNeed
need_at cells column = record {
  preferred_width = greatest_at (map (λ c. part c c.preferred_width) cells) column;
  min_width = greatest_at (map (λ c. part c c.min_width) cells) column;
  longest_word = 0;
}

-- THE NEEDS of each column of a table
abbrev pub column_needs : (columns : ℕ) → List CellNeed → List ColumnNeed
column_needs columns cells = map (need_at cells) (range_with_len 0 columns)

-- the need of a column without cells
abbrev pub no_need : ColumnNeed
no_need = record { preferred_width = 0; min_width = 0; longest_word = 0 }

-- whether each cell has a column
abbrev pub AreSome : List CellNeed → Type 0
AreSome cells = All (λ c. 0 < c.count) cells

-- whether a cell has one or more columns, all among the first `columns`
pub record IsCell (columns : ℕ) (c : CellNeed) : Type 0 where
  pub over : c.start + c.count ≤ columns
  pub some : 0 < c.count

abbrev pub AreCells : (columns : ℕ) → List CellNeed → Type 0
AreCells columns cells = All (IsCell columns) cells

-- whether the minimum width of each column is at most its preferred width
abbrev pub AreWithinSizes : List ColumnNeed → Type 0
AreWithinSizes needs = All (λ n. n.min_width ≤ n.preferred_width) needs

-- whether a cell's minimum width fits its columns and the separators between them
abbrev pub HasRoom : (widths : List ℕ) → CellNeed → Type 0
HasRoom widths c = c.min_width ≤ sum (slice_range widths c.start (c.start + c.count)) + (c.count - 1)
