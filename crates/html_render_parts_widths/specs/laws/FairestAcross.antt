-- The widths of columns side by side are the one fairest cut of their shares.
use Rattle.std.proofs.Common.{◌≡◌, ℕ, ◌+◌, ◌-◌, ◌<◌, ◌≤◌, ◌==◌, true, false, not, leb, List, length, sum, Some, None, refl, ap, ◌∙◌, subst}
use Rattle.std.proofs.Common.{arith, inl, inr}
use Rattle.std.proofs.lemmas.Bool.{cases_Bool, and_from, and_parts, leb-true, le-leb}
use Rattle.std.proofs.lemmas.Bool.Decides.{nat_tests}
use Rattle.html_render_parts_widths.specs.declared.shares.ColumnNeed.{ColumnNeed}
use Rattle.html_render_parts_widths.specs.Cuts.{cut_by_units, IsFairestCut}
use Rattle.html_render_parts_widths.specs.Shares.{least_widths, stand_side_by_side, word_minimums, word_shares, widths_across}
use Rattle.html_render_parts_widths.specs.laws.Cuts.{fairest-only}
use Rattle.html_render_parts_widths.specs.laws.WordMinimums.{word_shares_fit}
use Rattle.html_render_parts_widths.specs.laws.UnitCut.{cut_by_units-fairest}

-- ---- when columns can be side by side

some-width : (w : ℕ) → not (w == 0) ≡ true → 0 < w
some-width w e = grind (arith, nat_tests)

width-some : (w : ℕ) → 0 < w → not (w == 0) ≡ true
width-some w h = grind (arith, nat_tests)

pub room_is : (w : ℕ) (needs : List ColumnNeed) → stand_side_by_side w needs ≡ true →
    (0 < w) × (sum (least_widths needs) + (length needs - 1) ≤ w)
room_is w needs e =
    let parts = and_parts (not (w == 0)) (leb (sum (least_widths needs) + (length needs - 1)) w) e in
    (some-width w parts.0, leb-true (sum (least_widths needs) + (length needs - 1)) w parts.1)

pub is_room : (w : ℕ) (needs : List ColumnNeed) → (0 < w) × (sum (least_widths needs) + (length needs - 1) ≤ w) →
    stand_side_by_side w needs ≡ true
is_room w needs h =
    and_from (not (w == 0)) (leb (sum (least_widths needs) + (length needs - 1)) w) (width-some w h.0)
    (le-leb (sum (least_widths needs) + (length needs - 1)) w h.1)

-- ---- their widths

abbrev cut_across : ℕ → List ColumnNeed → List ℕ
cut_across w needs = cut_by_units (word_minimums w needs) (word_shares w needs) w

some-across : (w : ℕ) (needs : List ColumnNeed) → stand_side_by_side w needs ≡ true → widths_across w needs ≡ Some (cut_across w needs)
some-across w needs t = rw t refl

none-across : (w : ℕ) (needs : List ColumnNeed) → stand_side_by_side w needs ≡ false → widths_across w needs ≡ None
none-across w needs t = rw t refl

cut-fairest : (w : ℕ) (needs : List ColumnNeed) → stand_side_by_side w needs ≡ true →
    IsFairestCut (word_minimums w needs) (word_shares w needs) w (cut_across w needs)
cut-fairest w needs t = cut_by_units-fairest (word_minimums w needs) (word_shares w needs) w (word_shares_fit w needs t)

pub across_is : (w : ℕ) (needs : List ColumnNeed) (ws : List ℕ) → widths_across w needs ≡ Some ws →
    (stand_side_by_side w needs ≡ true) × IsFairestCut (word_minimums w needs) (word_shares w needs) w ws
across_is w needs ws e = elim (cases_Bool (stand_side_by_side w needs)) [
  | inl t ↦
      let f = some-across w needs t in
      let same : cut_across w needs ≡ ws = cc in
      (t, subst (IsFairestCut (word_minimums w needs) (word_shares w needs) w) same (cut-fairest w needs t))
  | inr t ↦ let f = none-across w needs t in cc
]

pub is_across : (w : ℕ) (needs : List ColumnNeed) (ws : List ℕ) → stand_side_by_side w needs ≡ true →
    IsFairestCut (word_minimums w needs) (word_shares w needs) w ws
    → widths_across w needs ≡ Some ws
is_across w needs ws t h =
    some-across w needs t ∙ ap (λ xs. Some xs) (fairest-only (word_minimums w needs) (word_shares w needs) w (cut_across w needs) ws (cut-fairest w needs t) h)

pub none_is : (w : ℕ) (needs : List ColumnNeed) → widths_across w needs ≡ None → stand_side_by_side w needs ≡ true → ⊥
none_is w needs e t = let f = some-across w needs t in cc

pub is_none : (w : ℕ) (needs : List ColumnNeed) → (stand_side_by_side w needs ≡ true → ⊥) → widths_across w needs ≡ None
is_none w needs h = elim (cases_Bool (stand_side_by_side w needs)) [ inl t ↦ absurd (h t) | inr t ↦ none-across w needs t ]
