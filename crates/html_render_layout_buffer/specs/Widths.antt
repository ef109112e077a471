-- How wide the lines of a block are: the columns of the first line, and the greatest columns of the others.
use Rattle.std.specs.Prelude.{ℕ, ◌+◌, max, Bool, true, false, ◌&&◌, nat_le, List, [], ◌∷◌, Option, Some, None}
use Rattle.html_render_layout_lines.specs.Line.{Line, columns}
use Rattle.html_render_layout_lines.specs.TaggedText.{counted}
use Rattle.html_render_layout_buffer.specs.declared.nested.widths.Widths.{Widths}
use Rattle.html_render_layout_buffer.specs.declared.nested.widths.Widths.TheVariants.{NoLines, One, Several}

-- the sum of two numbers of columns, each `None` if it passes a machine word
abbrev pub columns_sum : Option ℕ → Option ℕ → Option ℕ
columns_sum (Some a) (Some b) = counted (a + b)
columns_sum (Some a) None = None
columns_sum None b = None

-- the greater of two numbers of columns
abbrev pub columns_max : Option ℕ → Option ℕ → Option ℕ
columns_max (Some a) (Some b) = Some (max a b)
columns_max (Some a) None = None
columns_max None b = None

-- whether a number of columns is at most `width`
abbrev pub is_within : Option ℕ → (width : ℕ) → Bool
is_within (Some n) width = nat_le n width
is_within None width = false

-- widths with one line more, of so many columns
abbrev pub with_line : Widths → Option ℕ → Widths
with_line NoLines n = One n
with_line (One first) n = Several first n
with_line (Several first later) n = Several first (columns_max later n)

-- widths with more lines
abbrev pub with_each : {T M : Type 0} → Widths → List (Line T M) → Widths
with_each w [] = w
with_each w (l ∷ ls) = with_each (with_line w (counted (columns l))) ls

-- widths with the lines of an inner block, whose prefixes have so many columns
abbrev pub with_block : Widths → (first later : Option ℕ) → Widths → Widths
with_block w first later NoLines = w
with_block w first later (One a) = with_line w (columns_sum first a)
with_block w first later (Several a b) = with_line (with_line w (columns_sum first a)) (columns_sum later b)

-- whether the lines fit in `width` columns after prefixes of so many columns
abbrev pub fit : Widths → (first later : Option ℕ) → (width : ℕ) → Bool
fit NoLines first later width = true
fit (One a) first later width = is_within (columns_sum first a) width
fit (Several a b) first later width = is_within (columns_sum first a) width && is_within (columns_sum later b) width

-- ---- the widths of lines

-- the greatest columns of these lines
abbrev pub widest : {T M : Type 0} → List (Line T M) → ℕ
widest [] = 0
widest (l ∷ ls) = max (columns l) (widest ls)

abbrev pub widths_of : {T M : Type 0} → List (Line T M) → Widths
widths_of [] = NoLines
widths_of (l ∷ []) = One (counted (columns l))
widths_of (l ∷ k ∷ ls) = Several (counted (columns l)) (counted (widest (k ∷ ls)))
