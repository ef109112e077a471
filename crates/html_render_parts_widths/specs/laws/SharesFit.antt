-- The shares of columns that can be side by side can be cut to the width. They add up to at most the width plus the minimum
-- widths.
use Rattle.std.proofs.Common.{◌≡◌, ℕ, ◌+◌, ◌-◌, ◌*◌, ◌/◌, ◌<◌, ◌≤◌, ◌==◌, Bool, true, false, not}
use Rattle.std.proofs.Common.{zero, suc, cond, ◌&&◌, leb, List, [], ◌∷◌, length, sum, sum_by, map, min, max, refl, ap, sym, ◌∙◌, arith}
use Rattle.std.proofs.Math.Nat.{add-mul, div-zero, div-mul-le_self, le-div_iff_mul-le}
use Rattle.std.proofs.lemmas.Bool.{leb-true, eqb-true}
use Rattle.std.proofs.lemmas.List.{get_or-map, length-map}
use Rattle.std.proofs.lemmas.List.Elements.{All-head, All-tail}
use Rattle.html_render_parts_widths.specs.declared.shares.ColumnNeed.{ColumnNeed}
use Rattle.html_render_parts_widths.specs.Cuts.{CutFits}
use Rattle.html_render_parts_widths.specs.Shares.{least_widths, share, share_by_size, shares, stand_side_by_side}
use Rattle.html_render_parts_widths.specs.Needs.{no_need, AreWithinSizes}

and_true : (a b : Bool) → (a && b) ≡ true → b ≡ true
and_true true b e = e
and_true false b e = cc

pub shares_fit : (w : ℕ) (needs : List ColumnNeed) → stand_side_by_side w needs ≡ true → CutFits (least_widths needs) (shares w needs) w
shares_fit w needs stand =
    let same : length (least_widths needs) ≡ length needs = length-map needs (λ n. n.min_width) in
    let room = leb-true (sum (least_widths needs) + (length needs - 1)) w
    (and_true (not (w == 0)) (leb (sum (least_widths needs) + (length needs - 1)) w) stand) in
    record {
      lengths = same ∙ sym (length-map needs (share w (sum_by (λ (m : ColumnNeed). m.preferred_width) needs)));
      each = λ k inside.
          let k_in : k < length needs = omega (arith, inside, same) in
          rw (
            get_or-map (λ n. n.min_width) needs k no_need 0 k_in,
            get_or-map (share w (sum_by (λ (m : ColumnNeed). m.preferred_width) needs)) needs k no_need 0 k_in,
          )
          (omega arith);
      room = omega (arith, room, same);
    }

-- ---- the sum of the shares

-- the sum of two quotients, each rounded down, is at most the rounded-down quotient of the sum
pub div-both : (a b t : ℕ) → a / t + b / t ≤ (a + b) / t
div-both a b zero = omega (arith, div-zero a, div-zero b)
div-both a b (suc t) =
    (le-div_iff_mul-le {k = suc t} {x = a / suc t + b / suc t} {y = a + b} (omega arith)).1
    (omega (arith, add-mul (a / suc t) (b / suc t) (suc t), div-mul-le_self a (suc t), div-mul-le_self b (suc t)))

-- if a column's minimum width is at most its preferred width, its share is `share_by_size`
pub share_is : (w t : ℕ) (n : ColumnNeed) → n.min_width ≤ n.preferred_width → share w t n ≡ share_by_size w t n
share_is w t n h = by (n.preferred_width == 0) refl
  where
    by : (b : Bool) → (n.preferred_width == 0) ≡ b → share w t n ≡ cond b 0 (min n.preferred_width (max (n.preferred_width * w / t) n.min_width))
    by true e = let zero = eqb-true n.preferred_width 0 e in omega arith
    by false e = omega arith

all_shares_are : (w t : ℕ) (needs : List ColumnNeed) → AreWithinSizes needs → map (share w t) needs ≡ map (share_by_size w t) needs
all_shares_are w t [] h = refl
all_shares_are w t (n ∷ ns) h =
    let P : ColumnNeed → Type 0 = λ m. m.min_width ≤ m.preferred_width in
    ap (λ x. x ∷ map (share w t) ns) (share_is w t n (All-head P n ns h))
    ∙ ap (λ xs. share_by_size w t n ∷ xs) (all_shares_are w t ns (All-tail P n ns h))

pub shares_are : (w : ℕ) (needs : List ColumnNeed) → AreWithinSizes needs →
    shares w needs ≡ map (share_by_size w (sum_by (λ (m : ColumnNeed). m.preferred_width) needs)) needs
shares_are w needs h = all_shares_are w (sum_by (λ (m : ColumnNeed). m.preferred_width) needs) needs h
