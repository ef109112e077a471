-- The fairest cut is a level form, whose level is its largest slack.
use Rattle.std.proofs.Common.{◌≡◌, ℕ, ◌+◌, ◌-◌, ◌<◌, ◌≤◌, ◌⊎◌, List, [], ◌∷◌, length, min, sum, refl, sym, ap, ◌∙◌, arith, get_or, inl, inr, zero, suc}
use Rattle.std.specs.Prelude.{sum_by, zip}
use Rattle.std.proofs.lemmas.List.Sums.{sum_by-cons}
use Rattle.std.proofs.lemmas.Bool.{cases_lt, cases_eq}
use Rattle.html_render_parts_widths.specs.Cuts.{largest_slack, total_width, CutFits, IsCut, IsFairestCut}
use Rattle.html_render_parts_widths.specs.LevelForm.{capped_sum, ranges, full_width, wanted, IsLevelForm, IsLowered}
use Rattle.html_render_parts_widths.specs.laws.Cuts.{length-ranges, ranges-at, minimums-fit}
use Rattle.html_render_parts_widths.proofs.CutLevels.{capped_sum-cons, sum-below}

-- ---- slacks

pub slack-le-largest : (ms ws : List ℕ) (k : ℕ) → length ws ≡ length ms → k < length ms → get_or ws k 0 - get_or ms k 0 ≤ largest_slack ms ws
slack-le-largest [] ws k e h = absurd (omega arith)
slack-le-largest (m ∷ ms) [] k e h = cc
slack-le-largest (m ∷ ms) (w ∷ ws) zero e h = let here : get_or (w ∷ ws) 0 0 - get_or (m ∷ ms) 0 0 ≡ w - m = refl in omega arith
slack-le-largest (m ∷ ms) (w ∷ ws) (suc k) e h = let rest : get_or ws k 0 - get_or ms k 0 ≤ largest_slack ms ws =
    slack-le-largest ms ws k (omega arith) (omega arith) in omega (arith, rest)

pub largest_slack-le : (ms ws : List ℕ) (n : ℕ) → length ws ≡ length ms → ((k : ℕ) → k < length ms → get_or ws k 0 - get_or ms k 0 ≤ n) →
    largest_slack ms ws ≤ n
largest_slack-le [] ws n e h = omega arith
largest_slack-le (m ∷ ms) [] n e h = cc
largest_slack-le (m ∷ ms) (w ∷ ws) n e h =
    let here : w - m ≤ n = h 0 (omega arith) in
    omega (arith, here, largest_slack-le ms ws n (omega arith) (λ k less. h (suc k) (omega arith)))

-- ---- sums at a level

-- the sum of the greatest widths with slacks up to a level: each is the minimum plus the level, or the share if that is less
abbrev pub sum_at_level : ℕ → List ℕ → List ℕ → ℕ
sum_at_level level (minimum ∷ minimums) (share ∷ shares) = min (minimum + level) share + sum_at_level level minimums shares
sum_at_level level minimums shares = 0

-- the same over columns, each with its minimum and its share
pub sum_at-zip : (l : ℕ) (ms ss : List ℕ) → sum_by (λ (x : ℕ × ℕ). min (x.0 + l) x.1) (zip ms ss) ≡ sum_at_level l ms ss
sum_at-zip l [] ss = refl
sum_at-zip l (m ∷ ms) [] = refl
sum_at-zip l (m ∷ ms) (s ∷ ss) =
    sum_by-cons (λ (x : ℕ × ℕ). min (x.0 + l) x.1) (m, s) (zip ms ss) ∙ ap (λ n. min (m + l) s + n) (sum_at-zip l ms ss)

pub sum_at-capped : (ms ss : List ℕ) (l : ℕ) → length ms ≡ length ss → ((k : ℕ) → k < length ms → get_or ms k 0 ≤ get_or ss k 0) →
    sum_at_level l ms ss ≡ sum ms + capped_sum l (ranges ms ss)
sum_at-capped [] [] l e h = refl
sum_at-capped (m ∷ ms) (s ∷ ss) l e h =
    let here : m ≤ s = h 0 (omega arith) in
    let rest = sum_at-capped ms ss l (omega arith) (λ k less. h (suc k) (omega arith)) in
    omega (arith, here, rest, capped_sum-cons l (s - m) (ranges ms ss), sum_by-cons (λ x. x) m ms)
sum_at-capped ms ss l e h = cc

-- widths that each are at least the greatest one at a level add up to at least the sum at it
sum_at-le : (ms ss ws : List ℕ) (l : ℕ) → length ms ≡ length ss → length ws ≡ length ms →
    ((k : ℕ) → k < length ms → min (get_or ms k 0 + l) (get_or ss k 0) ≤ get_or ws k 0) → sum_at_level l ms ss ≤ sum ws
sum_at-le [] ss ws l e f h = omega arith
sum_at-le (m ∷ ms) (s ∷ ss) (w ∷ ws) l e f h =
    let here : min (m + l) s ≤ w = h 0 (omega arith) in
    omega (arith, here, sum_at-le ms ss ws l (omega arith) (omega arith) (λ k less. h (suc k) (omega arith)), sum_by-cons (λ x. x) w ws)
sum_at-le ms ss ws l e f h = cc

-- if they add up to no more, their slacks are at most the level
slack-at : (ms ss ws : List ℕ) (l : ℕ) → length ms ≡ length ss → length ws ≡ length ms →
    ((k : ℕ) → k < length ms → min (get_or ms k 0 + l) (get_or ss k 0) ≤ get_or ws k 0) → sum ws ≤ sum_at_level l ms ss → largest_slack ms ws ≤ l
slack-at [] ss ws l e f h some = omega arith
slack-at (m ∷ ms) (s ∷ ss) (w ∷ ws) l e f h some =
    let here : min (m + l) s ≤ w = h 0 (omega arith) in
    let each : (k : ℕ) → k < length ms → min (get_or ms k 0 + l) (get_or ss k 0) ≤ get_or ws k 0 = λ k less. h (suc k) (omega arith) in
    let least = sum_at-le ms ss ws l (omega arith) (omega arith) each in
    let all = sum_by-cons (λ x. x) w ws in
    let rest = slack-at ms ss ws l (omega arith) (omega arith) each (omega arith) in
    omega (arith, here, least, all, some, rest)
slack-at ms ss ws l e f h some = cc

-- ---- the level of a level form is the largest slack

-- the widths of a cut add up to the total width, also without columns
cut-total : (ms ss : List ℕ) (w : ℕ) (ws : List ℕ) → CutFits ms ss w → IsCut ms ss w ws → sum ws ≡ total_width ss w
cut-total [] [] w [] fits cut = omega arith
cut-total [] (s ∷ ss) w ws fits cut = let l = fits.lengths in cc
cut-total [] ss w (v ∷ ws) fits cut = let l = cut.lengths in cc
cut-total (m ∷ ms) ss w ws fits cut = cut.total (omega arith)

-- no cut has slacks below the level alone
pub level-reached : (ms ss : List ℕ) (w : ℕ) (ws : List ℕ) (level lowered : ℕ) → CutFits ms ss w → IsLevelForm ms ss w ws level lowered
    → (vs : List ℕ) → IsCut ms ss w vs → level ≤ largest_slack ms vs
level-reached ms ss w ws level lowered fits form vs cut =
    elim (cases_lt (largest_slack ms vs) level) [
      | inl less ↦ absurd (
          let below = sum-below ms (ranges ms ss) vs (largest_slack ms vs) cut.lengths (length-ranges ms ss fits.lengths)
          (λ j in_j. let a = ranges-at ms ss j fits.lengths in_j in let b = cut.upper j in_j in let c =
          slack-le-largest ms vs j cut.lengths in_j in let d = fits.each j in_j in omega arith) in
          let short = form.is_level.least (largest_slack ms vs) less in
          omega (arith, below, short, cut-total ms ss w vs fits cut, minimums-fit ms ss w fits))
      | inr le ↦ le
    ]

-- the slacks of a level form are at most its level
pub level-covers : (ms ss : List ℕ) (w : ℕ) (ws : List ℕ) (level lowered : ℕ) → CutFits ms ss w → IsLevelForm ms ss w ws level lowered →
    largest_slack ms ws ≤ level
level-covers ms ss w ws level lowered fits form =
    largest_slack-le ms ws level form.lengths (λ k inside. elim (form.each k inside) [ inl f ↦ omega arith | inr f ↦ omega arith ])

-- ---- a fairest cut is a level form

module _ (ms ss : List ℕ) (w : ℕ) (ws : List ℕ) (fits : CutFits ms ss w) (best : IsFairestCut ms ss w ws) where
  -- a column below its share has at least the largest slack minus 1
  near : (k : ℕ) → k < length ms → get_or ws k 0 < get_or ss k 0 → largest_slack ms ws ≤ (get_or ws k 0 - get_or ms k 0) + 1
  near k in_k below = largest_slack-le ms ws _ best.is_cut.lengths (λ j in_j.
      elim (cases_eq j k) [
        | inl e ↦ rw e (omega arith)
        | inr ne ↦
            let gives = best.last_unit k j in_k in_j (λ e. ne (sym e)) below in
            let low = best.is_cut.lower k in_k in
            grind arith
      ])

  full-or-lowered : (k : ℕ) → k < length ms →
      (get_or ws k 0 ≡ full_width ms ss (largest_slack ms ws) k) ⊎ IsLowered ms ss ws (largest_slack ms ws) k
  full-or-lowered k in_k =
      let low = best.is_cut.lower k in_k in
      let up = best.is_cut.upper k in_k in
      let most = slack-le-largest ms ws k best.is_cut.lengths in_k in
      elim (cases_lt (get_or ws k 0) (get_or ss k 0)) [
        | inl below ↦
            let close = near k in_k below in
            elim (cases_lt (get_or ws k 0 - get_or ms k 0) (largest_slack ms ws)) [
              | inl less ↦ inr (omega arith, omega arith, omega arith)
              | inr le ↦ inl (omega arith)
            ]
        | inr le ↦ inl (omega arith)
      ]

  -- each column has at least the greatest width at any level below
  at-least : (l k : ℕ) → l < largest_slack ms ws → k < length ms → min (get_or ms k 0 + l) (get_or ss k 0) ≤ get_or ws k 0
  at-least l k less in_k =
      let each = fits.each k in_k in
      elim (full-or-lowered k in_k) [ inl f ↦ omega arith | inr f ↦ omega arith ]

  pub fairest-form : (lowered : ℕ) → sum ws + lowered ≡ sum_at_level (largest_slack ms ws) ms ss →
      IsLevelForm ms ss w ws (largest_slack ms ws) lowered
  fairest-form lowered lack =
      let total = cut-total ms ss w ws fits best.is_cut in
      let fit = minimums-fit ms ss w fits in
      let capped = λ (l : ℕ). sum_at-capped ms ss l fits.lengths fits.each in
      let here = capped (largest_slack ms ws) in
      record {
        is_level = record {
          enough = omega (arith, total, fit, here, lack);
          least = λ l less. elim (cases_lt (capped_sum l (ranges ms ss)) (wanted ms ss w)) [
            | inl short ↦ short
            | inr le ↦ absurd (
                let some : sum ws ≤ sum_at_level l ms ss = omega (arith, total, fit, capped l, le) in
                let most = slack-at ms ss ws l fits.lengths best.is_cut.lengths (λ k in_k. at-least l k less in_k) some in
                omega arith)
          ];
        };
        rest = omega (arith, total, fit, here, lack);
        lengths = best.is_cut.lengths;
        each = full-or-lowered;
        count = omega (arith, here, lack);
        first = λ i j in_i in_j down at same.
            let each = fits.each i in_i in
            let gives = best.last_unit i j in_i in_j (λ e. let t = rw e at down in omega arith) (omega arith) in
            grind arith;
      }
