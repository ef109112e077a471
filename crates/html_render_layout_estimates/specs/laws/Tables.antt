-- A table's minimum width is at most its preferred width.
use Rattle.std.proofs.Common.{◌≡◌, Bool, true, false, ltb, leb, cond, ℕ, ◌+◌, ◌-◌, ◌*◌, ◌/◌, ◌≤◌, max, List, [], ◌∷◌, map, zero, suc}
use Rattle.std.proofs.Common.{◌&&◌, refl, sym, ap, ◌∙◌, subst, arith}
use Rattle.std.specs.List.{range_with_len}
use Rattle.std.specs.Prelude.{sum_by}
use Rattle.std.proofs.Math.Nat.{div-mul-le_self, le-div_iff_mul-le, mul-le-mul_left}
use Rattle.std.proofs.lemmas.Bool.{and_parts, leb-true, ltb-true}
use Rattle.std.proofs.lemmas.List.Sums.{sum_by-cons}
use Rattle.html_render_parts_widths.specs.declared.needs.CellNeed.{CellNeed}
use Rattle.html_render_parts_widths.specs.declared.shares.ColumnNeed.{ColumnNeed}
use Rattle.html_render_parts_widths.specs.declared.spans.Span.{Span}
use Rattle.html_render_parts_widths.specs.Spans.{given, greatest_at}
use Rattle.html_render_parts_widths.specs.Needs.{part, need_at, column_needs}
use Rattle.html_render_layout_estimates.specs.Estimates.{table_estimate}

-- ---- sums

sum_by-map : {X Y : Type 0} (f : Y → ℕ) (g : X → Y) (xs : List X) → sum_by f (map g xs) ≡ sum_by (λ x. f (g x)) xs
sum_by-map f g [] = refl
sum_by-map f g (x ∷ xs) = sum_by-cons f (g x) (map g xs) ∙ ap (λ n. f (g x) + n) (sum_by-map f g xs) ∙ sym (sum_by-cons (λ y. f (g y)) x xs)

-- if each value is at most the sum of two others, so is the sum of the values
sum_by-parts : (f g h : ℕ → ℕ) (ks : List ℕ) → ((k : ℕ) → f k ≤ g k + h k) → sum_by f ks ≤ sum_by g ks + sum_by h ks
sum_by-parts f g h [] each = omega arith
sum_by-parts f g h (k ∷ ks) each =
    omega (arith, sum_by-cons f k ks, sum_by-cons g k ks, sum_by-cons h k ks, each k, sum_by-parts f g h ks each)

sum_by-zero : (ks : List ℕ) → sum_by (λ k. 0) ks ≡ 0
sum_by-zero [] = refl
sum_by-zero (k ∷ ks) = omega (arith, sum_by-cons (λ x. 0) k ks, sum_by-zero ks)

-- ---- a value over neighbouring columns

-- the number of a span's columns from a column on
abbrev columns_from : Span → (at : ℕ) → ℕ
columns_from s at = s.start + s.count - max at s.start

given-next : (s : Span) (at rest : ℕ) → rest ≤ columns_from s (at + 1) * s.value → given s at + rest ≤ columns_from s at * s.value
given-next s at rest h = by (leb s.start at && ltb at (s.start + s.count)) refl
  where
    by : (b : Bool) → (leb s.start at && ltb at (s.start + s.count)) ≡ b → cond b s.value 0 + rest ≤ columns_from s at * s.value
    by true e =
        let parts = and_parts (leb s.start at) (ltb at (s.start + s.count)) e in
        let low = leb-true s.start at parts.0 in
        let high = ltb-true at (s.start + s.count) parts.1 in
        let n : columns_from s at ≡ columns_from s (at + 1) + 1 = omega (arith, low, high) in
        subst (λ m. s.value + rest ≤ m * s.value) (sym n) (omega (arith, h))
    by false e = let fewer : columns_from s (at + 1) ≤ columns_from s at = omega arith in omega (arith, h, mul-le-mul_left s.value fewer)

sum-given : (s : Span) (at count : ℕ) → sum_by (given s) (range_with_len at count) ≤ columns_from s at * s.value
sum-given s at zero = omega arith
sum-given s at (suc n) =
    let rest = given-next s at (sum_by (given s) (range_with_len (at + 1) n)) (sum-given s (at + 1) n) in
    omega (arith, sum_by-cons (given s) at (range_with_len (at + 1) n), rest)

-- ---- a cell

abbrev part_of : CellNeed → ℕ
part_of c = c.preferred_width / c.count * c.count

-- the parts of a minimum width add up to at most those of a preferred width that isn't less
parts-le : (n min_width preferred_width : ℕ) → min_width ≤ preferred_width → n * (min_width / n) ≤ preferred_width / n * n
parts-le zero min_width preferred_width h = omega arith
parts-le (suc n) min_width preferred_width h =
    let part = div-mul-le_self min_width (suc n) in
    let less : min_width / suc n ≤ preferred_width / suc n =
    (le-div_iff_mul-le {k = suc n} {x = min_width / suc n} {y = preferred_width} (omega arith)).1 (omega (arith, part, h)) in
    omega (arith, mul-le-mul_left (suc n) less)

cell-le : (columns : ℕ) (c : CellNeed) → c.min_width ≤ c.preferred_width → sum_by (given (part c c.min_width)) (range_with_len 0 columns) ≤ part_of c
cell-le columns c h =
    let all : columns_from (part c c.min_width) 0 ≡ c.count = omega arith in
    let sum : sum_by (given (part c c.min_width)) (range_with_len 0 columns) ≤ c.count * (c.min_width / c.count) =
    subst (λ n. sum_by (given (part c c.min_width)) (range_with_len 0 columns) ≤ n * (c.min_width / c.count)) all (sum-given (part c c.min_width) 0 columns) in
    omega (arith, sum, parts-le c.count c.min_width c.preferred_width h)

-- ---- all cells

abbrev needed_by : List CellNeed → (column : ℕ) → ℕ
needed_by cells k = greatest_at (map (λ c. part c c.min_width) cells) k

-- whether the minimum width of each cell is at most its preferred width
abbrev pub HaveOrderedWidths : List CellNeed → Type 0
HaveOrderedWidths [] = Unit {0}
HaveOrderedWidths (c ∷ cs) = (c.min_width ≤ c.preferred_width) × HaveOrderedWidths cs

sum-le : (columns : ℕ) (cells : List CellNeed) → HaveOrderedWidths cells →
    sum_by (needed_by cells) (range_with_len 0 columns) ≤ sum_by part_of cells
sum-le columns [] h = omega (arith, sum_by-zero (range_with_len 0 columns))
sum-le columns (c ∷ cs) h =
    omega (
      arith,
      sum_by-parts (needed_by (c ∷ cs)) (given (part c c.min_width)) (needed_by cs) (range_with_len 0 columns) (λ k. omega arith),
      cell-le columns c h.0,
      sum-le columns cs h.1,
      sum_by-cons part_of c cs,
    )

-- ---- a table

pub table_within : (columns : ℕ) (cells : List CellNeed) (prefix children : ℕ) → HaveOrderedWidths cells →
    (table_estimate columns cells prefix children).min_width ≤ (table_estimate columns cells prefix children).preferred_width
table_within columns cells prefix children h =
    let needs : sum_by (λ (n : ColumnNeed). n.min_width) (column_needs columns cells) ≡ sum_by (needed_by cells) (range_with_len 0 columns) =
    sum_by-map (λ (n : ColumnNeed). n.min_width) (need_at cells) (range_with_len 0 columns) in
    omega (arith, needs, sum-le columns cells h)
