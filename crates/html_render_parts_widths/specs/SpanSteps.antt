-- The steps that spread values over columns. The value at index `i` counts for a window: the `columns` columns from `i` on.
-- Windows shrink from step to step, until each is one column.
use Rattle.std.specs.Prelude.{◌≡◌, ℕ, ◌+◌, ◌-◌, ◌≤◌, ◌<◌, List, length, max, nat_le, ◌==◌, ◌||◌, if◌then◌else◌, slice_index, slice_index_or}
use Rattle.html_render_parts_widths.specs.declared.spans.Span.{Span}
use Rattle.html_render_parts_widths.specs.Spans.{greatest_at}

-- a span without columns
abbrev pub no_span : Span
no_span = record { start = 0; count = 0; value = 0 }

abbrev pub span_at : List Span → ℕ → Span
span_at spans k = slice_index_or spans k no_span

-- whether each column of a span is in the window of a value that is at least the span's
abbrev pub Reaches : (values : List ℕ) → (columns : ℕ) → Span → Type 0
Reaches values columns s = (j : ℕ) → s.start ≤ j → j < s.start + s.count →
    (i : ℕ) × (i ≤ j) × (j < i + columns) × (s.value ≤ slice_index values i)

-- whether no value passes the greatest value over any column of its window, among the first `all` columns
abbrev pub AreWithin : (all columns : ℕ) → List Span → (values : List ℕ) → Type 0
AreWithin all columns spans values = (i j : ℕ) → i ≤ j → j < i + columns → j < all → slice_index values i ≤ greatest_at spans j

-- whether values with windows of `columns` columns reflect two groups of spans: all those of at least `longer` columns, and
-- those of at least `columns` columns among the first `done`
pub record IsSpread (all columns longer done : ℕ) (spans : List Span) (values : List ℕ) : Type 0 where
  pub places : length values ≡ all
  pub within : AreWithin all columns spans values
  pub long : (k : ℕ) → k < length spans → longer ≤ (span_at spans k).count → Reaches values columns (span_at spans k)
  pub short : (k : ℕ) → k < done → columns ≤ (span_at spans k).count → Reaches values columns (span_at spans k)

-- the greater of the value at an index and the value `offset` places to its left, if there is one
abbrev pub split_at : (offset : ℕ) → List ℕ → ℕ → ℕ
split_at offset values k = if nat_le offset k then max (slice_index values k) (slice_index values (k - offset)) else slice_index values k

-- the value at an index, raised to the span's value if the window is at the span's start or ends with the span
abbrev pub raised_at : (columns : ℕ) → Span → List ℕ → ℕ → ℕ
raised_at columns s values k =
    if (k == s.start) || (k == s.start + (s.count - columns)) then max (slice_index values k) s.value else slice_index values k
