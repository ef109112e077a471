-- The widths of a table's columns that are side by side in a block.
use Rattle.std.specs.Prelude.{ℕ, ◌+◌, ◌-◌, ◌*◌, ◌/◌, ◌==◌, ◌≤◌, Bool, not, ◌&&◌, nat_le}
use Rattle.std.specs.Prelude.{List, All, length, map, sum, sum_by, zip, min, max, Option, Some, None, if◌then◌else◌}
use Rattle.html_render_parts_widths.specs.declared.shares.ColumnNeed.{ColumnNeed}
use Rattle.html_render_parts_widths.specs.Cuts.{cut_by_units}

-- the minimum widths of columns
abbrev pub least_widths : List ColumnNeed → List ℕ
least_widths needs = map (λ n. n.min_width) needs

-- The share of a column in a width. It is to the width as the column's preferred width is to the total of all preferred
-- widths, rounded down, but at most the preferred width and, before all, at least the minimum width.
abbrev pub share : (width total : ℕ) → ColumnNeed → ℕ
share width total need = max need.min_width (min need.preferred_width (need.preferred_width * width / total))

-- The share of a column whose minimum width is at most its preferred width, in the form of docs/BEHAVIOUR.md: 0 if the
-- preferred width is 0, and otherwise in proportion, at least the minimum width and at most the preferred width.
abbrev pub share_by_size : (width total : ℕ) → ColumnNeed → ℕ
share_by_size width total need = if need.preferred_width == 0 then 0 else min need.preferred_width (max (need.preferred_width * width / total) need.min_width)

-- the shares of columns in a width
abbrev pub shares : (width : ℕ) → List ColumnNeed → List ℕ
shares width needs = map (share width (sum_by (λ n. n.preferred_width) needs)) needs

-- whether columns can be side by side: the width isn't 0, and the minimum widths and the separators add up to at most it
abbrev pub stand_side_by_side : (width : ℕ) → List ColumnNeed → Bool
stand_side_by_side width needs = not (width == 0) && nat_le (sum (least_widths needs) + (length needs - 1)) width

-- the widths at which columns cut no word: those of their longest words, at least their minimum widths
abbrev pub whole_widths : List ColumnNeed → List ℕ
whole_widths needs = map (λ n. max n.min_width n.longest_word) needs

-- THE WORD MINIMUMS of columns: the fairest cut of the widths at which they cut no word
abbrev pub word_minimums : (width : ℕ) → List ColumnNeed → List ℕ
word_minimums width needs = cut_by_units (least_widths needs) (whole_widths needs) width

-- the shares of columns, each at least the column's word minimum
abbrev pub word_shares : (width : ℕ) → List ColumnNeed → List ℕ
word_shares width needs = map (λ x. max x.0 x.1) (zip (word_minimums width needs) (shares width needs))

-- THE WIDTHS of columns side by side: the fairest cut of these shares to the word minimums; `None` if they can't be side by
-- side
abbrev pub widths_across : (width : ℕ) → List ColumnNeed → Option (List ℕ)
widths_across width needs =
    if stand_side_by_side width needs then Some (cut_by_units (word_minimums width needs) (word_shares width needs) width) else None

-- whether no longest word of a column passes its minimum width, as where words aren't measured
abbrev pub HaveShortWords : List ColumnNeed → Type 0
HaveShortWords needs = All (λ n. n.longest_word ≤ n.min_width) needs
