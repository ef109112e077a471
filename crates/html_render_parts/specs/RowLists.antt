-- Rows of items, one after another in one list.
use Rattle.std.specs.Prelude.{◌-◌, ◌≤◌, All, List, drop, length, map, take}
use Rattle.html_render_parts.specs.declared.table.row_list.RowRange.{RowRange}

-- items of a row
abbrev pub row_in : {T : Type 0} → List T → RowRange → List T
row_in items r = take (r.end - r.start) (drop r.start items)

-- items of each row
abbrev pub rows_in : {T : Type 0} → List T → List RowRange → List (List T)
rows_in items ranges = map (row_in items) ranges

-- whether the rows are among the items
abbrev pub AreRanges : {T : Type 0} → List T → List RowRange → Type 0
AreRanges items ranges = All (λ r. (r.start ≤ r.end) × (r.end ≤ length items)) ranges
