-- Letters from U+00C0 to U+00FF, which are two bytes each and take one column.
use Rattle.std.proofs.Common.{◌≡◌, ℕ, ◌+◌, ◌-◌, ◌<◌, ◌≤◌, eqb, true, false, List, [], ◌∷◌, drop, length, get_or, refl, sym, ap, ◌∙◌, arith, inl, inr}
use Rattle.std.specs.List.{list_all, range_with_len}
use Rattle.std.specs.Str.{chars}
use Rattle.std.proofs.lemmas.Bool.{cases_Bool, cases_lt, eqb-true, true≢false}
use Rattle.std.proofs.lemmas.List.{drop_more}
use Rattle.std.proofs.lemmas.List.Folds.{list_all_at}
use Rattle.std.proofs.lemmas.List.FromFn.{get_or-range_with_len, length-range_with_len}
use Rattle.std.proofs.lemmas.Grind.{common_steps}
use Rattle.unicode_width.proofs.Computing.{unicode_width}
use Rattle.html_render_layout_lines.specs.Character.{is_collapsible, width_of}

-- ---- widths, computed from the tables of Unicode

from_c0 : list_all (λ c. eqb (width_of c) 1) (range_with_len 192 16) ≡ true
unfolding unicode_width width_of
from_c0 = refl

from_d0 : list_all (λ c. eqb (width_of c) 1) (range_with_len 208 16) ≡ true
unfolding unicode_width width_of
from_d0 = refl

from_e0 : list_all (λ c. eqb (width_of c) 1) (range_with_len 224 16) ≡ true
unfolding unicode_width width_of
from_e0 = refl

from_f0 : list_all (λ c. eqb (width_of c) 1) (range_with_len 240 16) ≡ true
unfolding unicode_width width_of
from_f0 = refl

one_of : (low : ℕ) → list_all (λ c. eqb (width_of c) 1) (range_with_len low 16) ≡ true → (c : ℕ) → low ≤ c → c < low + 16 → width_of c ≡ 1
one_of low all c from to = elim (cases_Bool (eqb (width_of c) 1)) [
  | inl one ↦ eqb-true (width_of c) 1 one
  | inr other ↦
      (let place : c - low < 16 = omega (arith, from, to) in
      let at : get_or (range_with_len low 16) (c - low) 0 ≡ c = get_or-range_with_len low 16 (c - low) 0 place ∙ omega (arith, from) in
      let none = list_all_at (λ c. eqb (width_of c) 1) (range_with_len low 16) (c - low) 0
      (omega (arith, place, length-range_with_len low 16)) (ap (λ d. eqb (width_of d) 1) at ∙ other) in
      absurd (true≢false (sym all ∙ none)))
]

pub latin_width : (c : ℕ) → 192 ≤ c → c < 256 → width_of c ≡ 1
latin_width c from to = elim (cases_lt c 208) [
  | inl c0 ↦ one_of 192 from_c0 c from (omega (arith, c0))
  | inr past_c0 ↦ elim (cases_lt c 224) [
    | inl d0 ↦ one_of 208 from_d0 c past_c0 (omega (arith, d0))
    | inr past_d0 ↦ elim (cases_lt c 240) [
      | inl e0 ↦ one_of 224 from_e0 c past_d0 (omega (arith, e0))
      | inr past_e0 ↦ one_of 240 from_f0 c past_e0 (omega (arith, to))
    ]
  ]
]

pub latin-collapsible : (c : ℕ) → 192 ≤ c → c < 256 → is_collapsible c ≡ false
latin-collapsible c from to = grind (arith, common_steps)

-- ---- bytes

pub chars-latin : (b : ℕ) (bs : List ℕ) → chars (195 ∷ b ∷ bs) ≡ (192 + (b - 128)) ∷ chars bs
unfolding chars
chars-latin b [] = refl
chars-latin b (x ∷ xs) = refl

pub next-latin : (bs : List ℕ) (at : ℕ) → at + 1 < length bs → get_or bs at 0 ≡ 195 →
    chars (drop at bs) ≡ (192 + (get_or bs (at + 1) 0 - 128)) ∷ chars (drop (at + 2) bs)
next-latin bs at within lead =
    let second : drop (at + 1) bs ≡ get_or bs (at + 1) 0 ∷ drop (at + 2) bs =
    drop_more bs (at + 1) 0 within ∙ ap (λ n. get_or bs (at + 1) 0 ∷ drop n bs) (omega arith) in
    ap chars (drop_more bs at 0 (omega (arith, within)) ∙ ap (λ b. b ∷ drop (at + 1) bs) lead ∙ ap (λ l. 195 ∷ l) second)
    ∙ chars-latin (get_or bs (at + 1) 0) (drop (at + 2) bs)
