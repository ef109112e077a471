-- Values that each cover a range of columns.
use Rattle.std.specs.Prelude.{◌≡◌, ℕ, ◌+◌, ◌≤◌, ◌<◌, List, [], ◌∷◌, All, max, nat_le, nat_lt, ◌&&◌, if◌then◌else◌, length, slice_index}
use Rattle.html_render_parts_widths.specs.declared.spans.Span.{Span}

-- the value that a span gives a column: its own if it covers the column, and otherwise 0
abbrev pub given : Span → (column : ℕ) → ℕ
given s column = if nat_le s.start column && nat_lt column (s.start + s.count) then s.value else 0

-- THE GREATEST value over a column; 0 without a span over it
abbrev pub greatest_at : List Span → (column : ℕ) → ℕ
greatest_at [] column = 0
greatest_at (s ∷ ss) column = max (given s column) (greatest_at ss column)

-- whether all spans are within the first `columns` columns
abbrev pub AreOver : (columns : ℕ) → List Span → Type 0
AreOver columns spans = All (λ s. s.start + s.count ≤ columns) spans

-- whether there are `columns` values, each the greatest one over its column
pub record AreGreatest (columns : ℕ) (spans : List Span) (values : List ℕ) : Type 0 where
  pub columns_of : length values ≡ columns
  pub each : (k : ℕ) → k < columns → slice_index values k ≡ greatest_at spans k
