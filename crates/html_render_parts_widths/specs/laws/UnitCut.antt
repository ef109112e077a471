-- The loop of single units gives a fairest cut.
use Rattle.std.proofs.Common.{◌≡◌, ◌≢◌, ℕ, ◌+◌, ◌-◌, ◌<◌, ◌≤◌, List, [], ◌∷◌, length, sum, set, refl, sym, ◌∙◌, arith, get_or, nat_lt, ◌==◌}
use Rattle.std.proofs.Common.{Bool, true, false, ◌||◌, ◌&&◌, if◌then◌else◌, inl, inr, suc, zero}
use Rattle.std.proofs.lemmas.List.Sums.{sum_by-set}
use Rattle.std.proofs.lemmas.List.{get_or-set_same, get_or-set_other, length-set}
use Rattle.std.proofs.lemmas.Bool.{cases_lt, cases_eq}
use Rattle.std.proofs.lemmas.Bool.Decides.{nat_tests}
use Rattle.html_render_parts_widths.specs.laws.Cuts.{minimums-fit, sum-le}
use Rattle.html_render_parts_widths.specs.laws.GivingOrder.{gives-transitive}
use Rattle.html_render_parts_widths.specs.Cuts.{GivesBefore, CutFits, IsFairestCut, slack, total_width, giver, without_units, cut_by_units}

-- whether each width is from its minimum to its share, and each column below its share, with one unit put back, gives before
-- each other column
pub record IsFairSoFar (minimums shares widths : List ℕ) : Type 0 where
  pub lengths : length widths ≡ length minimums
  pub lower : (k : ℕ) → k < length minimums → get_or minimums k 0 ≤ get_or widths k 0
  pub upper : (k : ℕ) → k < length minimums → get_or widths k 0 ≤ get_or shares k 0
  pub last_unit : (i j : ℕ) → i < length minimums → j < length minimums → i ≢ j → get_or widths i 0 < get_or shares i 0 →
      GivesBefore ((get_or widths i 0 + 1) - get_or minimums i 0) (get_or widths i 0 + 1) i (get_or widths j 0 - get_or minimums j 0)
      (get_or widths j 0) j

abbrev IsBest : List ℕ → List ℕ → ℕ → Type 0
IsBest ms ws i = (j : ℕ) → j < length ws → j ≢ i →
    GivesBefore (get_or ws i 0 - get_or ms i 0) (get_or ws i 0) i (get_or ws j 0 - get_or ms j 0) (get_or ws j 0) j

pub unit-taken : (ms ss ws : List ℕ) (i : ℕ) → IsFairSoFar ms ss ws → i < length ws → get_or ms i 0 < get_or ws i 0 → IsBest ms ws i →
    IsFairSoFar ms ss (set ws i (get_or ws i 0 - 1))
unit-taken ms ss ws i h inside some best =
    let len = h.lengths in
    let same : get_or (set ws i (get_or ws i 0 - 1)) i 0 ≡ get_or ws i 0 - 1 = get_or-set_same ws i (get_or ws i 0 - 1) 0 inside in
    let other : (k : ℕ) → k ≢ i → get_or (set ws i (get_or ws i 0 - 1)) k 0 ≡ get_or ws k 0 =
    λ k ne. get_or-set_other ws i k (get_or ws i 0 - 1) 0 ne in
    record {
      lengths = length-set ws i (get_or ws i 0 - 1) ∙ h.lengths;
      lower = λ k less. elim (cases_eq k i) [
        | inl e ↦ rw e (omega arith)
        | inr ne ↦ let o = other k ne in let b = h.lower k less in
            omega arith
      ];
      upper = λ k less. elim (cases_eq k i) [
        | inl e ↦ rw e (let b = h.upper i (omega arith) in omega arith)
        | inr ne ↦ let o =
            other k ne in let b = h.upper k less in omega arith
      ];
      last_unit = λ a b in_a in_b ne below. elim (cases_eq a i) [
        | inl e ↦
            let nb : b ≢ i = λ f. ne (e ∙ sym f) in
            let o = other b nb in
            let t : (get_or ws i 0 - 1) + 1 ≡ get_or ws i 0 = omega arith in
            rw (e, same, t, o) (best b (omega arith) nb)
        | inr na ↦ let o = other a na in elim (cases_eq b i) [
          | inl f ↦
              let old = h.last_unit a b in_a in_b ne (omega arith) in
              let low = h.lower a in_a in
              rw (o, f, same) (let older = rw f at old in elim older [
                | inl x ↦ inl (omega arith)
                | inr x ↦ inl (omega (arith, x.0))
              ])
          | inr nb ↦ let q = other b nb in rw (o, q) (h.last_unit a b in_a in_b ne (omega arith))
        ]
      ];
    }

-- if the widths add up to more than the minimums, the best column has a unit to give
pub best-has : (ms ss ws : List ℕ) (i : ℕ) → IsFairSoFar ms ss ws → i < length ws → IsBest ms ws i → sum ms < sum ws → get_or ms i 0 < get_or ws i 0
best-has ms ss ws i h inside best more = elim (cases_lt (get_or ms i 0) (get_or ws i 0)) [
  | inl less ↦ less
  | inr le ↦ absurd (
      let none = sum-le ws ms h.lengths (λ k less. let len = h.lengths in
      elim (cases_eq k i) [ inl e ↦ rw e le | inr ne ↦ elim (best k less ne) [ inl a ↦ omega arith | inr a ↦ omega (arith, a.0) ] ]) in
      omega arith)
]

-- ---- the loop

-- whether the column `b` gives before each other one of the first `n`
abbrev IsGiver : List ℕ → List ℕ → ℕ → ℕ → Type 0
IsGiver ms ws n b = (b < n) × ((j : ℕ) → j < n → j ≢ b → GivesBefore (slack ms ws b) (get_or ws b 0) b (slack ms ws j) (get_or ws j 0) j)

tested : (s s' w w' p p' : ℕ) → (nat_lt s s' || (s == s' && nat_lt w w')) ≡ true → GivesBefore s' w' p' s w p
tested s s' w w' p p' h = grind (arith, nat_tests)

not-tested : (s s' w w' p p' : ℕ) → (nat_lt s s' || (s == s' && nat_lt w w')) ≡ false → p < p' → GivesBefore s w p s' w' p'
not-tested s s' w w' p p' h left = grind (arith, nat_tests)

one-giver : (ms ws : List ℕ) (t : Bool) → IsGiver ms ws 1 (if t then 0 else 0)
one-giver ms ws true = (omega arith, λ j less ne. absurd (omega arith))
one-giver ms ws false = (omega arith, λ j less ne. absurd (omega arith))

more-givers : (ms ws : List ℕ) (n b : ℕ) (t : Bool) → IsGiver ms ws n b →
    t ≡ (nat_lt (slack ms ws b) (slack ms ws n) || (slack ms ws b == slack ms ws n && nat_lt (get_or ws b 0) (get_or ws n 0))) →
    IsGiver ms ws (suc n) (if t then n else b)
more-givers ms ws n b true h e =
    let new = tested (slack ms ws b) (slack ms ws n) (get_or ws b 0) (get_or ws n 0) b n (sym e) in (
      omega arith,
      λ j less ne. elim (cases_eq j b) [
        | inl same ↦ rw same new
        | inr other ↦ gives-transitive (slack ms ws n) (get_or ws n 0) n (slack ms ws b) (get_or ws b 0) b (slack ms ws j) (get_or ws j 0) j
            new (h.1 j (omega arith) other)
      ],
    )
more-givers ms ws n b false h e =
    let old = not-tested (slack ms ws b) (slack ms ws n) (get_or ws b 0) (get_or ws n 0) b n (sym e) h.0 in
    let inside = h.0 in
    (omega arith, λ j less ne. elim (cases_eq j n) [ inl same ↦ rw same old | inr other ↦ h.1 j (omega arith) ne ])

giver-gives : (ms ws : List ℕ) (n : ℕ) → 0 < n → IsGiver ms ws n (giver ms ws n)
unfolding giver
giver-gives ms ws zero pos = absurd (omega arith)
giver-gives ms ws (suc zero) pos = one-giver ms ws _
giver-gives ms ws (suc (suc n)) pos = more-givers ms ws (suc n) (giver ms ws (suc n)) _ (giver-gives ms ws (suc n) (omega arith)) refl

-- taking `n` units lowers the sum by `n`, and the widths stay fair
pub units-fair : (n : ℕ) (ms ss ws : List ℕ) → IsFairSoFar ms ss ws → sum ms + n ≤ sum ws →
    IsFairSoFar ms ss (without_units n ms ws) × (sum (without_units n ms ws) + n ≡ sum ws)
unfolding without_units
units-fair zero ms ss ws fair enough = (fair, omega arith)
units-fair (suc n) ms ss ws fair enough =
    let some : 0 < length ws = elim (cases_lt 0 (length ws)) [ inl h ↦ h | inr h ↦ absurd (let none = sum-none ws h in omega arith) ] in
    let i : ℕ = giver ms ws (length ws) in
    let best = giver-gives ms ws (length ws) some in
    let has = best-has ms ss ws (giver ms ws (length ws)) fair best.0 best.1 (omega arith) in
    let less = sum_by-set (λ x. x) ws (giver ms ws (length ws)) (get_or ws (giver ms ws (length ws)) 0 - 1) 0 best.0 in
    let rest = units-fair n ms ss (set ws (giver ms ws (length ws)) (get_or ws (giver ms ws (length ws)) 0 - 1))
    (unit-taken ms ss ws (giver ms ws (length ws)) fair best.0 has best.1) (omega arith) in
    (rest.0, (let total = rest.1 in omega arith))
  where
    sum-none : (us : List ℕ) → length us ≤ 0 → sum us ≡ 0
    sum-none [] h = refl
    sum-none (u ∷ us) h = absurd (omega arith)

pub cut_by_units-fairest : (ms ss : List ℕ) (w : ℕ) → CutFits ms ss w → IsFairestCut ms ss w (cut_by_units ms ss w)
unfolding cut_by_units
cut_by_units-fairest ms ss w fits =
    let fit = minimums-fit ms ss w fits in
    let start : IsFairSoFar ms ss ss = record {
      lengths = sym fits.lengths;
      lower = fits.each;
      upper = λ k h. omega arith;
      last_unit = λ i j in_i in_j ne below. absurd (omega arith);
    } in
    let end = units-fair (sum ss - total_width ss w) ms ss ss start (omega arith) in
    record {
      is_cut = record {
        lengths = end.0.lengths;
        lower = end.0.lower;
        upper = end.0.upper;
        total = λ some. let left = end.1 in omega arith;
      };
      last_unit = end.0.last_unit;
    }
