-- Spans of the cells of a table, by the spans that its elements ask for. A colspan of 0 asks for the columns that the row has left.
use Rattle.std.specs.Prelude.{ℕ, ◌+◌, ◌-◌, ◌^◌, ◌<◌, ◌==◌, All, max, List, [], ◌∷◌, map, sum_by, if◌then◌else◌}
use Rattle.html_render_parts.specs.declared.table.Span.{Span}

-- how many columns a row's cells ask for together, a 0 counted as 1
abbrev pub width_of : List Span → ℕ
width_of cells = sum_by (λ c. max 1 c.colspan) cells

-- the greatest of the widths of rows
abbrev pub greatest_width : List (List Span) → ℕ
greatest_width [] = 0
greatest_width (r ∷ rs) = max (width_of r) (greatest_width rs)

-- what a cell spans in a row that is narrower by `missing` columns than the widest of its part of the table
abbrev pub spanned : (missing : ℕ) → Span → Span
spanned missing c = record { colspan = if c.colspan == 0 then missing + 1 else c.colspan; rowspan = max 1 c.rowspan }

-- whether cells ask for fewer than 2 ^ 64 columns each
abbrev pub AreAsked : List Span → Type 0
AreAsked cells = All (λ s. s.colspan < 2 ^ 64) cells

-- what the cells of a part's rows span
abbrev pub spanned_in : (widest : ℕ) → List (List Span) → List (List Span)
spanned_in widest rows = map (λ cells. map (spanned (widest - width_of cells)) cells) rows
