-- Laws of cuts: the units that they take, the sums of neighbouring columns, and that the fairest cut is unique.
use Rattle.std.proofs.Common.{◌≡◌, ℕ, ◌+◌, ◌-◌, ◌*◌, ◌/◌, ◌<◌, ◌≤◌, ◌⊎◌, List, [], ◌∷◌, length, sum, refl, sym, ◌∙◌, arith, get_or, inl, inr, suc}
use Rattle.std.proofs.Common.{zero, take, drop}
use Rattle.std.specs.Prelude.{slice_range}
use Rattle.std.proofs.lemmas.List.{length-take, length-drop, get_or-take, get_or-drop}
use Rattle.std.proofs.lemmas.List.Sums.{sum_by-cons}
use Rattle.std.proofs.lemmas.Bool.{cases_lt, cases_eq}
use Rattle.html_render_parts_widths.specs.Cuts.{total_width, CutFits, IsCut, IsFairestCut}
use Rattle.html_render_parts_widths.specs.LevelForm.{ranges}

-- ---- ranges

pub length-ranges : (ms ss : List ℕ) → length ms ≡ length ss → length (ranges ms ss) ≡ length ms
length-ranges [] ss e = refl
length-ranges (m ∷ ms) [] e = cc
length-ranges (m ∷ ms) (s ∷ ss) e = omega (arith, length-ranges ms ss (omega arith))

pub ranges-at : (ms ss : List ℕ) (k : ℕ) → length ms ≡ length ss → k < length ms → get_or (ranges ms ss) k 0 ≡ get_or ss k 0 - get_or ms k 0
ranges-at [] ss k e h = absurd (omega arith)
ranges-at (m ∷ ms) [] k e h = cc
ranges-at (m ∷ ms) (s ∷ ss) zero e h = refl
ranges-at (m ∷ ms) (s ∷ ss) (suc k) e h = ranges-at ms ss k (omega arith) (omega arith)

pub sum-ranges : (ms ss : List ℕ) → length ms ≡ length ss → ((k : ℕ) → k < length ms → get_or ms k 0 ≤ get_or ss k 0) →
    sum (ranges ms ss) + sum ms ≡ sum ss
sum-ranges [] [] e h = refl
sum-ranges (m ∷ ms) (s ∷ ss) e h =
    let here : m ≤ s = h 0 (omega arith) in
    let rest = sum-ranges ms ss (omega arith) (λ k less. h (suc k) (omega arith)) in
    omega (arith, here, rest, sum_by-cons (λ x. x) (s - m) (ranges ms ss), sum_by-cons (λ x. x) m ms, sum_by-cons (λ x. x) s ss)
sum-ranges ms ss e h = cc

-- the sum of the minimums is at most the sum of a cut's widths
pub minimums-fit : (ms ss : List ℕ) (w : ℕ) → CutFits ms ss w → sum ms ≤ total_width ss w
minimums-fit ms ss w h = let e = sum-ranges ms ss h.lengths h.each in let l = h.lengths in let r = h.room in omega arith

-- ---- the fairest cut is unique

pub sum-le : (us vs : List ℕ) → length us ≡ length vs → ((k : ℕ) → k < length us → get_or us k 0 ≤ get_or vs k 0) → sum us ≤ sum vs
sum-le [] vs e h = omega arith
sum-le (a ∷ us) [] e h = cc
sum-le (a ∷ us) (b ∷ vs) e h =
    let here : a ≤ b = h 0 (omega arith) in
    omega (arith, here, sum-le us vs (omega arith) (λ k less. h (suc k) (omega arith)), sum_by-cons (λ z. z))

-- two lists of equal sums are equal if one is nowhere below the other
pub same-from_le : (xs ys : List ℕ) → length xs ≡ length ys → sum xs ≡ sum ys → ((k : ℕ) → k < length xs → get_or ys k 0 ≤ get_or xs k 0) → xs ≡ ys
same-from_le [] [] e s h = refl
same-from_le (x ∷ xs) (y ∷ ys) e s h =
    let here : y ≤ x = h 0 (omega arith) in
    let rest = sum-le ys xs (omega arith) (λ k less. h (suc k) (omega arith)) in
    let head : x ≡ y = omega (arith, here, rest, s, sum_by-cons (λ z. z) x xs, sum_by-cons (λ z. z) y ys) in
    let tail : xs ≡ ys = same-from_le xs ys (omega arith)
    (omega (arith, here, rest, s, sum_by-cons (λ z. z) x xs, sum_by-cons (λ z. z) y ys)) (λ k less. h (suc k) (omega arith)) in
    cc
same-from_le xs ys e s h = cc

-- either `xs` is below `ys` at an index, or it is nowhere below
pub find-below : (xs ys : List ℕ) (n : ℕ) → ((k : ℕ) × (k < n) × (get_or xs k 0 < get_or ys k 0)) ⊎ ((k : ℕ) → k < n → get_or ys k 0 ≤ get_or xs k 0)
find-below xs ys zero = inr (λ k h. absurd (omega arith))
find-below xs ys (suc n) = elim (find-below xs ys n) [
  | inl f ↦ inl (f.0, omega arith, f.2)
  | inr f ↦ elim (cases_lt (get_or xs n 0) (get_or ys n 0)) [
    | inl less ↦ inl (n, omega arith, less)
    | inr le ↦ inr (λ k h. elim (cases_eq k n) [ inl e ↦ rw e le | inr ne ↦ f k (omega arith) ])
  ]
]

-- two fairest cuts don't cross: one isn't less than the other at `i` and greater at `j`
crossed : (ms ss : List ℕ) (w : ℕ) (xs ys : List ℕ) (i j : ℕ) → IsFairestCut ms ss w xs → IsFairestCut ms ss w ys → i < length ms →
    j < length ms → get_or xs i 0 < get_or ys i 0 → get_or ys j 0 < get_or xs j 0 → ⊥
crossed ms ss w xs ys i j p q in_i in_j less more =
    let up_i = q.is_cut.upper i in_i in
    let up_j = p.is_cut.upper j in_j in
    let low_xi = p.is_cut.lower i in_i in
    let low_yj = q.is_cut.lower j in_j in
    let one = p.last_unit i j in_i in_j (λ e. let t = rw e at less in omega arith) (omega arith) in
    let two = q.last_unit j i in_j in_i (λ e. let t = rw e at more in omega arith) (omega arith) in
    grind arith

pub fairest-only : (ms ss : List ℕ) (w : ℕ) (xs ys : List ℕ) → IsFairestCut ms ss w xs → IsFairestCut ms ss w ys → xs ≡ ys
fairest-only ms ss w xs ys p q =
    elim (find-below xs ys (length ms)) [
      | inr le ↦ same xs ys p q le
      | inl f ↦ elim (find-below ys xs (length ms)) [
        | inr le ↦ sym (same ys xs q p le)
        | inl g ↦ absurd (crossed ms ss w xs ys f.0 g.0 p q f.1 g.1 f.2 g.2)
      ]
    ]
  where
    same : (us vs : List ℕ) → IsFairestCut ms ss w us → IsFairestCut ms ss w vs → ((k : ℕ) → k < length ms → get_or vs k 0 ≤ get_or us k 0) → us ≡ vs
    same [] [] p q le = refl
    same [] (b ∷ vs) p q le = let a = p.is_cut.lengths in let b = q.is_cut.lengths in absurd (omega arith)
    same (a ∷ us) vs p q le =
        let l = p.is_cut.lengths in let m = q.is_cut.lengths in
        same-from_le (a ∷ us) vs (omega arith) (p.is_cut.total (omega arith) ∙ sym (q.is_cut.total (omega arith)))
        (λ k less. le k (omega arith))

-- ---- the units taken, and neighbouring columns

pub few-units : (ms ss : List ℕ) (w : ℕ) (ws : List ℕ) → CutFits ms ss w → IsCut ms ss w ws → sum ss ≤ sum ms + w → sum ss - sum ws ≤ w
few-units [] [] w ws fits cut few = omega arith
few-units [] (s ∷ ss) w ws fits cut few = let l = fits.lengths in cc
few-units (m ∷ ms) ss w ws fits cut few =
    let t = cut.total (omega arith) in
    omega (arith, t, minimums-fit (m ∷ ms) ss w fits)

-- columns that each have at least their part of `m` add up to at least `m`, with the separators between them
pub neighbours : (xs : List ℕ) (m : ℕ) → 0 < length xs → ((k : ℕ) → k < length xs → m / length xs ≤ get_or xs k 0) → m ≤ sum xs + (length xs - 1)
neighbours xs m pos h = let t = at-least xs (m / length xs) h in omega arith
  where
    at-least : (ys : List ℕ) (q : ℕ) → ((k : ℕ) → k < length ys → q ≤ get_or ys k 0) → length ys * q ≤ sum ys
    at-least [] q h = omega arith
    at-least (y ∷ ys) q h = let here : q ≤ y = h 0 (omega arith) in let rest = at-least ys q (λ k less. h (suc k) (omega arith)) in
        omega (arith, here, rest, sum_by-cons (λ z. z) y ys)

-- whether neighbouring columns add up to a size, with the separators, if each minimum is at least its part of the size
abbrev pub HoldTogether : List ℕ → List ℕ → Type 0
HoldTogether ms ws = (from count size : ℕ) → 0 < count → from + count ≤ length ms →
    ((k : ℕ) → from ≤ k → k < from + count → size / count ≤ get_or ms k 0) → size ≤ sum (slice_range ws from (from + count)) + (count - 1)

pub neighbours-cut : (ms ss : List ℕ) (w : ℕ) (ws : List ℕ) → IsCut ms ss w ws → HoldTogether ms ws
neighbours-cut ms ss w ws cut from count m some inside each =
    let width : from + count - from ≡ count = omega arith in
    let len = cut.lengths in
    let part : length (take count (drop from ws)) ≡ count = omega (arith, length-take count (drop from ws), length-drop from ws) in
    rw width (let t = neighbours (take count (drop from ws)) m (omega arith) (λ k h.
    let in_k : k < count = omega arith in
    let e = get_or-take count (drop from ws) k 0 in_k in
    let f = get_or-drop from ws k 0 in
    let low = cut.lower (from + k) (omega arith) in
    let least = each (from + k) (omega arith) (omega arith) in
    rw (part, e, f) (omega arith)) in omega (arith, t, part))

-- the columns of a cut and the separators between them are within the width
pub cut-within : (ms ss : List ℕ) (w : ℕ) (ws : List ℕ) → CutFits ms ss w → IsCut ms ss w ws → sum ws + (length ws - 1) ≤ w
cut-within [] ss w [] fits cut = omega arith
cut-within [] ss w (v ∷ ws) fits cut = let l = cut.lengths in cc
cut-within (m ∷ ms) ss w ws fits cut =
    let total = cut.total (omega arith) in
    omega (arith, total, cut.lengths, fits.lengths, fits.room, minimums-fit (m ∷ ms) ss w fits)
