-- The sum of capped ranges grows with the level, by at most 1 for each column. Each probe halves the levels left to search.
use Rattle.std.proofs.Common.{◌≡◌, ℕ, ◌+◌, ◌-◌, ◌*◌, ◌^◌, ◌<◌, ◌≤◌, List, [], ◌∷◌, length, min, sum, refl, arith, get_or, zero, suc, add-one, inl, inr}
use Rattle.std.proofs.Math.Nat.{pow-suc, mul-le-mul_right}
use Rattle.std.proofs.Math.Pow.{pow_mono}
use Rattle.std.proofs.lemmas.Bool.{cases_lt}
use Rattle.std.proofs.lemmas.List.Sums.{sum_by-cons}
use Rattle.html_render_parts_widths.specs.Cuts.{largest_slack}
use Rattle.html_render_parts_widths.specs.LevelForm.{capped_sum, ranges, IsLevel}

pub capped_sum-cons : (l x : ℕ) (xs : List ℕ) → capped_sum l (x ∷ xs) ≡ min x l + capped_sum l xs
capped_sum-cons l x xs = sum_by-cons (λ s. min s l) x xs

pub capped_sum-mono : (l m : ℕ) (xs : List ℕ) → l ≤ m → capped_sum l xs ≤ capped_sum m xs
capped_sum-mono l m [] h = omega arith
capped_sum-mono l m (x ∷ xs) h = omega (arith, capped_sum-cons l x xs, capped_sum-cons m x xs, capped_sum-mono l m xs h)

-- raising the level by 1 raises the sum by at most 1 for each column
pub capped_sum-step : (l : ℕ) (xs : List ℕ) → capped_sum (l + 1) xs ≤ capped_sum l xs + length xs
capped_sum-step l [] = omega arith
capped_sum-step l (x ∷ xs) = omega (arith, capped_sum-cons l x xs, capped_sum-cons (l + 1) x xs, capped_sum-step l xs)

pub capped_sum-zero : (xs : List ℕ) → capped_sum 0 xs ≡ 0
capped_sum-zero [] = refl
capped_sum-zero (x ∷ xs) = omega (arith, capped_sum-cons 0 x xs, capped_sum-zero xs)

-- at the greatest range or above it, the level caps no range
pub capped_sum-greatest : (ms ss : List ℕ) (l : ℕ) → largest_slack ms ss ≤ l → capped_sum l (ranges ms ss) ≡ sum (ranges ms ss)
capped_sum-greatest (m ∷ ms) (s ∷ ss) l h =
    let here : s - m ≤ l = omega arith in
    omega (arith, here, capped_sum-cons l (s - m) (ranges ms ss), sum_by-cons (λ x. x), capped_sum-greatest ms ss l (omega arith))
capped_sum-greatest ms ss l h = refl

-- an excess over the wanted sum needs a level above 0 whose predecessor isn't enough, and is at most one unit for each
-- column
pub excess-some : (level : ℕ) (xs : List ℕ) (w : ℕ) → IsLevel level xs w → 0 < capped_sum level xs - w → (0 < level) × (capped_sum (level - 1) xs < w)
excess-some zero xs w h some = absurd (let e = capped_sum-zero xs in omega arith)
excess-some (suc l) xs w h some = (omega arith, let t = h.least (suc l - 1) (omega arith) in t)

pub excess-below : (level : ℕ) (xs : List ℕ) (w : ℕ) → IsLevel level xs w → capped_sum level xs - w ≤ length xs
excess-below zero xs w h = let e = capped_sum-zero xs in omega arith
excess-below (suc l) xs w h =
    let t : capped_sum l xs < w = h.least l (omega arith) in
    let e : suc l ≡ l + 1 = omega arith in
    rw e (let u = capped_sum-step l xs in omega (arith, t, u))

-- widths that are at most the full widths at a level add up to at most the minimums plus the capped ranges
pub sum-below : (ms rs ws : List ℕ) (l : ℕ) → length ws ≡ length ms → length rs ≡ length ms →
    ((k : ℕ) → k < length ms → get_or ws k 0 ≤ get_or ms k 0 + min (get_or rs k 0) l) → sum ws ≤ sum ms + capped_sum l rs
sum-below [] rs [] l e f h = omega arith
sum-below (m ∷ ms) (r ∷ rs) (w ∷ ws) l e f h =
    let here : w ≤ m + min r l = h 0 (omega arith) in
    let rest = sum-below ms rs ws l (omega arith) (omega arith) (λ k less. h (suc k) (omega arith)) in
    omega (arith, here, rest, sum_by-cons (λ x. x) w ws, sum_by-cons (λ x. x) m ms, capped_sum-cons l r rs)
sum-below ms rs ws l e f h = cc

-- ---- halving

-- bounds on the probes after one more probe, which leaves a distance of `e` between the lowest and the highest level
pub record IsProbed (d e p top : ℕ) : Type 0 where
  pub probes : p + 1 ≤ 64
  pub halved : e * 2 ^ (p + 1) ≤ top
  pub no_more : top + 2 ≤ (e + 2) * 2 ^ (p + 1)
  pub last : 2 ^ (p + 1) ≤ 2 * top + 1

pub probed : (d e p top : ℕ) → 0 < d → 2 * e ≤ d → d ≤ 2 * e + 2 → d * 2 ^ p ≤ top → top + 2 ≤ (d + 2) * 2 ^ p → top < 2 ^ 64 → p ≤ 64 →
    IsProbed d e p top
probed d e p top pos below above halved no_more fits few =
    let twice : 2 ^ (p + 1) ≡ 2 ^ p * 2 = rw add-one (pow-suc 2 p) in
    let one : 2 ^ p ≤ d * 2 ^ p = let t : 1 * 2 ^ p ≤ d * 2 ^ p = mul-le-mul_right (2 ^ p) pos in omega (arith, t) in
    let less : (2 * e) * 2 ^ p ≤ d * 2 ^ p = mul-le-mul_right (2 ^ p) below in
    let more : (d + 2) * 2 ^ p ≤ (2 * e + 4) * 2 ^ p = mul-le-mul_right (2 ^ p) (let t : d + 2 ≤ 2 * e + 4 = omega arith in t) in
    record {
      probes = elim (cases_lt p 64) [
        | inl less_p ↦ omega arith
        | inr le ↦ absurd (let t : 2 ^ 64 ≤ 2 ^ p = pow_mono le in omega (arith, t, one))
      ];
      halved = rw twice (omega (arith, less));
      no_more = rw twice (omega (arith, more));
      last = rw twice (omega (arith, one));
    }
