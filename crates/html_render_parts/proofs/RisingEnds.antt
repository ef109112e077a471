-- The rows below the last one, one after another: that of the cells that end first, and then those of the others.
use Rattle.std.proofs.Common.{◌≡◌, ℕ, ◌<◌, ◌≤◌, Bool, true, List, [], ◌∷◌, Some, length, get_or, filter, map, All, Contains, nat_lt}
use Rattle.std.proofs.Common.{nat_le, refl, sym, ap, ◌∙◌, arith, inl, inr, ◌⊎◌, suc, zero}
use Rattle.std.proofs.lemmas.Bool.{lt-ltb, le-leb, ltb-true}
use Rattle.std.proofs.lemmas.List.Sums.{length-filter, count_by-le-length}
use Rattle.std.proofs.lemmas.List.Elements.{All-nil, All-cons, All-head, All-tail, All-contains, All-weaker, filter_passes}
use Rattle.html_render_parts.specs.declared.table.placement.PositionedCell.{PositionedCell}
use Rattle.html_render_dom_values.specs.declared.errors.Error.{Error}
use Rattle.html_render_dom_values.specs.declared.errors.Error.TheVariants.{TooNarrow, Fail, OutOfMemory}
use Rattle.html_render_parts.specs.Placement.{bottom_rows, end_of, rest_from, rising, rising_with}
use Rattle.html_render_parts.specs.PlacementSteps.{IsNextBottom, Placing, RowSoFar, empty_row, fitting_positions, with_rest}
use Rattle.html_render_parts.specs.Refusal.{Fails}
use Rattle.html_render_parts.proofs.NumberTests.{ltb-tells}
use Rattle.html_render_parts.proofs.PlacingRows.{bottom-made, bottom-past}
use Rattle.std.proofs.lemmas.Bool.Decides.{nat_tests}

-- cells that end after n
abbrev later : ℕ → List PositionedCell → List PositionedCell
later n cells = filter (λ c. nat_lt n (end_of c)) cells

-- cells that end at n or after it
abbrev reaching : ℕ → List PositionedCell → List PositionedCell
reaching n cells = filter (λ c. nat_le n (end_of c)) cells

filter-all : (p : PositionedCell → Bool) (cs : List PositionedCell) → All (λ c. p c ≡ true) cs → filter p cs ≡ cs
filter-all p [] h = refl
filter-all p (c ∷ cs) h = rw (All-head (λ d. p d ≡ true) c cs h) (ap (λ r. c ∷ r) (filter-all p cs (All-tail (λ d. p d ≡ true) c cs h)))

later-all : (n : ℕ) (cs : List PositionedCell) → All (λ c. n < end_of c) cs → later n cs ≡ cs
later-all n cs h = filter-all (λ c. nat_lt n (end_of c)) cs
    (All-weaker (λ c. n < end_of c) (λ c. nat_lt n (end_of c) ≡ true) (λ c. lt-ltb n (end_of c)) cs h)

reaching-all : (n : ℕ) (cs : List PositionedCell) → All (λ c. n ≤ end_of c) cs → reaching n cs ≡ cs
reaching-all n cs h = filter-all (λ c. nat_le n (end_of c)) cs
    (All-weaker (λ c. n ≤ end_of c) (λ c. nat_le n (end_of c) ≡ true) (λ c. le-leb n (end_of c)) cs h)

-- for m above n, the cells that reach m are among those that end after n
reaching-later : (m n : ℕ) → n < m → (cs : List PositionedCell) → reaching m (later n cs) ≡ reaching m cs
reaching-later m n less [] = refl
reaching-later m n less (c ∷ cs) = let ih = reaching-later m n less cs in grind (arith, nat_tests)

-- ---- rising numbers

rising_with-front : (n : ℕ) (ms : List ℕ) → All (λ m. n < m) ms → rising_with n ms ≡ n ∷ ms
rising_with-front n [] h = refl
rising_with-front n (m ∷ ms) h =
    let P : ℕ → Type 0 = λ k. n < k in
    let here : n < m = All-head P m ms h in
    grind (arith, nat_tests)

-- cases of inserting a number: below the first one, above it, or equal to it
pub rising-step : (P : List ℕ → Type 0) (n m : ℕ) (ms : List ℕ) → (n < m → P (n ∷ m ∷ ms)) → (m < n → P (m ∷ rising_with n ms)) →
    (m ≡ n → P (m ∷ ms)) → P (rising_with n (m ∷ ms))
rising-step P n m ms first later same = grind (arith, nat_tests)

pub All-rising_with : (P : ℕ → Type 0) (n : ℕ) (ms : List ℕ) → P n → All P ms → All P (rising_with n ms)
All-rising_with P n [] p h = All-cons P n [] p (All-nil P)
All-rising_with P n (m ∷ ms) p h = rising-step (All P) n m ms (λ less. All-cons P n (m ∷ ms) p h)
    (λ less. All-cons P m (rising_with n ms) (All-head P m ms h) (All-rising_with P n ms p (All-tail P m ms h))) (λ e. h)

All-rising-map : (P : ℕ → Type 0) (cs : List PositionedCell) → All (λ c. P (end_of c)) cs → All P (rising (map end_of cs))
All-rising-map P [] h = All-nil P
All-rising-map P (c ∷ cs) h =
    let Q : PositionedCell → Type 0 = λ d. P (end_of d) in
    All-rising_with P (end_of c) (rising (map end_of cs)) (All-head Q c cs h) (All-rising-map P cs (All-tail Q c cs h))

-- if all ends are at least n, then n is the first one, or no end is n
least-first : (n : ℕ) (cs : List PositionedCell) → All (λ c. n ≤ end_of c) cs →
    (rising (map end_of cs) ≡ n ∷ rising (map end_of (later n cs))) ⊎ All (λ c. n < end_of c) cs
least-first n [] h = inr (All-nil (λ (c : PositionedCell). n < end_of c))
least-first n (c ∷ cs) h =
    let P : PositionedCell → Type 0 = λ d. n ≤ end_of d in
    let Q : PositionedCell → Type 0 = λ d. n < end_of d in
    let here : n ≤ end_of c = All-head P c cs h in
    elim (ltb-tells n (end_of c)) [
      | inl t ↦ elim (least-first n cs (All-tail P c cs h)) [
        | inl e ↦ elim (ltb-tells (end_of c) n) [
          | inl u ↦ absurd (omega arith)
          | inr u ↦ inl (rw (e, u.0, t.0) refl)
        ]
        | inr a ↦ inr (All-cons Q c cs t.1 a)
      ]
      | inr t ↦
          let same : end_of c ≡ n = omega arith in
          inl (elim (least-first n cs (All-tail P c cs h)) [
            | inl e ↦ grind (arith, nat_tests)
            | inr a ↦
                let f = rising_with-front n (rising (map end_of cs)) (All-rising-map (λ m. n < m) cs a) in
                rw (t.0, later-all n cs a, same, f) refl
          ])
    ]

least-is : (first : PositionedCell) (cs : List PositionedCell) → Contains cs first → All (λ c. end_of first ≤ end_of c) cs →
    rising (map end_of cs) ≡ end_of first ∷ rising (map end_of (later (end_of first) cs))
least-is first cs has h = elim (least-first (end_of first) cs h) [
  | inl e ↦ e
  | inr a ↦ absurd (let less : end_of first < end_of first = All-contains (λ c. end_of first < end_of c) cs first a has in omega arith)
]

-- ---- one row below the last one

bottoms-later : (n : ℕ) (ms : List ℕ) → All (λ m. n < m) ms → (hung : List PositionedCell) →
    map (λ m. rest_from 0 (reaching m (later n hung))) ms ≡ map (λ m. rest_from 0 (reaching m hung)) ms
bottoms-later n [] h hung = refl
bottoms-later n (m ∷ ms) h hung =
    let P : ℕ → Type 0 = λ k. n < k in
    let here : n < m = All-head P m ms h in
    let ih = bottoms-later n ms (All-tail P m ms h) hung in
    rw (reaching-later m n here hung, ih) refl

bottoms-next : (hung : List PositionedCell) (first : PositionedCell) → Contains hung first → All (λ c. end_of first ≤ end_of c) hung →
    bottom_rows hung ≡ rest_from 0 hung ∷ bottom_rows (later (end_of first) hung)
bottoms-next hung first has h =
    let n = end_of first in
    let ms = rising (map end_of (later n hung)) in
    let above : All (λ m. n < m) ms = All-rising-map (λ m. n < m) (later n hung)
    (All-weaker (λ c. nat_lt n (end_of c) ≡ true) (λ c. n < end_of c) (λ c. ltb-true n (end_of c)) (later n hung)
    (filter_passes (λ c. nat_lt n (end_of c)) hung)) in
    rw (least-is first hung has h, reaching-all n hung h) (ap (λ r. rest_from 0 hung ∷ r) (sym (bottoms-later n ms above hung)))

-- fewer cells end later than all cells, since the first one doesn't
later-shorter : (hung : List PositionedCell) (first : PositionedCell) → Contains hung first → length (later (end_of first) hung) < length hung
later-shorter hung first has = shorter hung has.0 has.1 has.2
  where
    shorter : (cs : List PositionedCell) (k : ℕ) → k < length cs → get_or cs k first ≡ first → length (later (end_of first) cs) < length cs
    shorter [] k inside at = absurd (omega arith)
    shorter (c ∷ cs) zero inside at =
        let p : PositionedCell → Bool = λ d. nat_lt (end_of first) (end_of d) in
        let most = count_by-le-length p cs in
        let same = length-filter p cs in
        let e = ap end_of at in
        grind (arith, nat_tests)
    shorter (c ∷ cs) (suc k) inside at =
        let more = shorter cs k (omega arith) at in
        grind (arith, nat_tests)

-- a row that is placed below the last one is the definition's next row there
pub next-bottom : (done next : Placing) (hung : List PositionedCell) (first : PositionedCell) (l : RowSoFar) → done.hanging ≡ hung →
    Contains hung first → All (λ c. end_of first ≤ end_of c) hung
    → with_rest hung empty_row ≡ Some l → next.places ≡ l.places → next.told ≡ l.told → next.hanging ≡ later (end_of first) hung →
    IsNextBottom done next
next-bottom done next hung first l same has h made places told hangs =
    let is = bottom-made hung l made in
    let row : rest_from 0 hung ≡ next.places = sym is.0 ∙ sym places in
    record {
      row_end = end_of first;
      rows = ap bottom_rows same ∙ bottoms-next hung first has h ∙ ap (λ r. r ∷ bottom_rows (later (end_of first) hung)) row
          ∙ ap (λ hs. next.places ∷ bottom_rows hs) (sym hangs);
      places = sym row ∙ ap (rest_from 0) (sym same);
      fits = rw places is.2;
      told = rw same (told ∙ is.1);
      hangs_on = rw same hangs;
      fewer = rw (hangs, same) (later-shorter hung first has);
    }

-- an error of placing the next row below the last one is one of all rows that remain there
pub bottoms-refused : (e : Error) (hung : List PositionedCell) (first : PositionedCell) → Contains hung first →
    All (λ c. end_of first ≤ end_of c) hung
    → Fails e (with_rest hung empty_row) → Fails e (fitting_positions (bottom_rows hung))
bottoms-refused TooNarrow hung first has h fails = fails
bottoms-refused OutOfMemory hung first has h fails = tt
bottoms-refused Fail hung first has h fails = rw (bottoms-next hung first has h, bottom-past hung fails) refl
