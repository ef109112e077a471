-- The word minimums of columns, and the shares that are cut to them.
use Rattle.std.proofs.Common.{◌≡◌, ℕ, ◌+◌, ◌-◌, ◌*◌, ◌/◌, ◌<◌, ◌≤◌, Bool, true, false, cond, zero, suc, List, [], ◌∷◌, length, sum, sum_by, map, max}
use Rattle.std.proofs.Common.{get_or, refl, ap, sym, ◌∙◌, arith, IfSome, Some, None}
use Rattle.std.specs.Prelude.{if◌then◌else◌}
use Rattle.std.proofs.Math.Nat.{add-mul, div-le_of_le-mul}
use Rattle.std.proofs.lemmas.List.{get_or-map, length-map}
use Rattle.std.proofs.lemmas.List.Elements.{All-head, All-tail}
use Rattle.std.proofs.lemmas.List.Sums.{sum_by-cons}
use Rattle.html_render_parts_widths.specs.declared.shares.ColumnNeed.{ColumnNeed}
use Rattle.html_render_parts_widths.specs.Cuts.{total_width, without_units, cut_by_units, CutFits, IsCut, IsFairestCut}
use Rattle.html_render_parts_widths.specs.Needs.{no_need}
use Rattle.html_render_parts_widths.specs.Shares.{least_widths, share, shares, stand_side_by_side, widths_across}
use Rattle.html_render_parts_widths.specs.Shares.{whole_widths, word_minimums, word_shares, HaveShortWords}
use Rattle.html_render_parts_widths.specs.CutSteps.{whole_width, greater_ones}
use Rattle.html_render_parts_widths.specs.laws.Cuts.{cut-within, few-units}
use Rattle.html_render_parts_widths.specs.laws.SharesFit.{div-both, shares_fit}
use Rattle.html_render_parts_widths.specs.laws.UnitCut.{cut_by_units-fairest}

-- ---- the word minimums

pub whole_fit : (w : ℕ) (needs : List ColumnNeed) → stand_side_by_side w needs ≡ true → CutFits (least_widths needs) (whole_widths needs) w
whole_fit w needs stand =
    let same : length (least_widths needs) ≡ length needs = length-map needs (λ n. n.min_width) in
    let fits = shares_fit w needs stand in
    record {
      lengths = same ∙ sym (length-map needs whole_width);
      each = λ k inside.
          let k_in : k < length needs = omega (arith, inside, same) in
          rw (get_or-map (λ (n : ColumnNeed). n.min_width) needs k no_need 0 k_in, get_or-map whole_width needs k no_need 0 k_in)
          (omega arith);
      room = fits.room;
    }

pub minimums_fairest : (w : ℕ) (needs : List ColumnNeed) → stand_side_by_side w needs ≡ true →
    IsFairestCut (least_widths needs) (whole_widths needs) w (word_minimums w needs)
minimums_fairest w needs stand = cut_by_units-fairest (least_widths needs) (whole_widths needs) w (whole_fit w needs stand)

pub length_minimums : (w : ℕ) (needs : List ColumnNeed) → stand_side_by_side w needs ≡ true → length (word_minimums w needs) ≡ length needs
length_minimums w needs stand =
    let cut = (minimums_fairest w needs stand).is_cut in
    cut.lengths ∙ length-map needs (λ (n : ColumnNeed). n.min_width)

pub above_least : (w : ℕ) (needs : List ColumnNeed) → stand_side_by_side w needs ≡ true → (k : ℕ) → k < length needs →
    get_or (least_widths needs) k 0 ≤ get_or (word_minimums w needs) k 0
above_least w needs stand k inside =
    let cut = (minimums_fairest w needs stand).is_cut in
    cut.lower k (omega (arith, inside, length-map needs (λ (n : ColumnNeed). n.min_width)))

-- shares that fit with their separators aren't cut
uncut : (ms ss : List ℕ) (w : ℕ) → sum ss + (length ss - 1) ≤ w → cut_by_units ms ss w ≡ ss
unfolding cut_by_units without_units
uncut ms ss w room = let none : sum ss - total_width ss w ≡ 0 = omega arith in ap (λ n. without_units n ms ss) none

-- if all whole widths fit, they are the word minimums
pub whole_minimums : (w : ℕ) (needs : List ColumnNeed) → sum (whole_widths needs) + (length needs - 1) ≤ w →
    word_minimums w needs ≡ whole_widths needs
whole_minimums w needs room =
    uncut (least_widths needs) (whole_widths needs) w (omega (arith, room, length-map needs whole_width))

-- ---- columns without long words

short-whole : (needs : List ColumnNeed) → HaveShortWords needs → whole_widths needs ≡ least_widths needs
short-whole [] h = refl
short-whole (n ∷ ns) h =
    let P : ColumnNeed → Type 0 = λ n. n.longest_word ≤ n.min_width in
    let first : n.longest_word ≤ n.min_width = All-head P n ns h in
    let here : whole_width n ≡ n.min_width = omega arith in
    let rest = short-whole ns (All-tail P n ns h) in
    cc

pub short_minimums : (w : ℕ) (needs : List ColumnNeed) → stand_side_by_side w needs ≡ true → HaveShortWords needs →
    least_widths needs ≡ word_minimums w needs
short_minimums w needs stand h =
    let fits = whole_fit w needs stand in
    let same = short-whole needs h in
    sym (ap (λ ss. cut_by_units (least_widths needs) ss w) same ∙ uncut (least_widths needs) (least_widths needs) w fits.room)

greater-shares : (w t : ℕ) (needs : List ColumnNeed) → greater_ones (least_widths needs) (map (share w t) needs) ≡ map (share w t) needs
greater-shares w t [] = refl
greater-shares w t (n ∷ ns) =
    let here : max n.min_width (share w t n) ≡ share w t n = omega arith in
    let rest = greater-shares w t ns in
    cc

-- without long words the widths are the fairest cut of the shares to the minimum widths
pub short_across : (w : ℕ) (needs : List ColumnNeed) → HaveShortWords needs →
    widths_across w needs ≡ (if stand_side_by_side w needs then Some (cut_by_units (least_widths needs) (shares w needs) w) else None)
short_across w needs h = by (stand_side_by_side w needs) refl
  where
    by : (b : Bool) → stand_side_by_side w needs ≡ b →
        cond b (Some (cut_by_units (word_minimums w needs) (word_shares w needs) w)) None
        ≡ cond b (Some (cut_by_units (least_widths needs) (shares w needs) w)) None
    by true stand =
        let minimums = sym (short_minimums w needs stand h) in
        ap (λ ms. Some (cut_by_units ms (greater_ones ms (shares w needs)) w)) minimums
        ∙ ap (λ ss. Some (cut_by_units (least_widths needs) ss w))
        (greater-shares w (sum_by (λ (n : ColumnNeed). n.preferred_width) needs) needs)
    by false stand = refl

-- ---- the shares, at least the word minimums

length-greater : (xs ys : List ℕ) → length xs ≡ length ys → length (greater_ones xs ys) ≡ length xs
length-greater [] ys e = refl
length-greater (x ∷ xs) [] e = cc
length-greater (x ∷ xs) (y ∷ ys) e = omega (arith, length-greater xs ys (omega arith))

greater-at : (xs ys : List ℕ) (k : ℕ) → length xs ≡ length ys → k < length xs →
    get_or (greater_ones xs ys) k 0 ≡ max (get_or xs k 0) (get_or ys k 0)
greater-at [] ys k e h = absurd (omega arith)
greater-at (x ∷ xs) [] k e h = cc
greater-at (x ∷ xs) (y ∷ ys) zero e h = refl
greater-at (x ∷ xs) (y ∷ ys) (suc k) e h = greater-at xs ys k (omega arith) (omega arith)

pub word_shares_fit : (w : ℕ) (needs : List ColumnNeed) → stand_side_by_side w needs ≡ true → CutFits (word_minimums w needs) (word_shares w needs) w
word_shares_fit w needs stand =
    let cut = (minimums_fairest w needs stand).is_cut in
    let same : length (word_minimums w needs) ≡ length (shares w needs) =
    length_minimums w needs stand ∙ sym (length-map needs (share w (sum_by (λ (n : ColumnNeed). n.preferred_width) needs))) in
    record {
      lengths = sym (length-greater (word_minimums w needs) (shares w needs) same);
      each = λ k inside. rw (greater-at (word_minimums w needs) (shares w needs) k same inside) (omega arith);
      room = cut-within (least_widths needs) (whole_widths needs) w (word_minimums w needs) (whole_fit w needs stand) cut;
    }

greater-most : (w t : ℕ) (ms : List ℕ) (needs : List ColumnNeed) → length ms ≡ length needs →
    ((k : ℕ) → k < length needs → get_or (least_widths needs) k 0 ≤ get_or ms k 0) →
    sum (greater_ones ms (map (share w t) needs)) ≤ sum ms + sum_by (λ m. m.preferred_width) needs * w / t
greater-most w t [] needs len h = omega arith
greater-most w t (m ∷ ms) [] len h = cc
greater-most w t (m ∷ ms) (n ∷ ns) len h =
    let here : n.min_width ≤ m = h 0 (omega arith) in
    let one : max m (share w t n) ≤ m + n.preferred_width * w / t = omega arith in
    let rest = greater-most w t ms ns (omega arith) (λ k less. h (suc k) (omega arith)) in
    let both = div-both (n.preferred_width * w) (sum_by (λ m. m.preferred_width) ns * w) t in
    omega (
      arith,
      one,
      rest,
      both,
      ap (λ x. x / t) (ap (λ x. x * w) (sum_by-cons (λ (m : ColumnNeed). m.preferred_width) n ns) ∙ add-mul n.preferred_width (sum_by (λ m. m.preferred_width) ns) w),
      sum_by-cons (λ x. x) (max m (share w t n)) (greater_ones ms (map (share w t) ns)),
      sum_by-cons (λ x. x) m ms,
    )

-- the shares add up to at most the word minimums plus the width
pub word_shares_keep : (w : ℕ) (needs : List ColumnNeed) → stand_side_by_side w needs ≡ true →
    sum (word_shares w needs) ≤ sum (word_minimums w needs) + w
word_shares_keep w needs stand =
    let total = sum_by (λ (m : ColumnNeed). m.preferred_width) needs in
    let most = greater-most w total (word_minimums w needs) needs (length_minimums w needs stand) (above_least w needs stand) in
    let whole : total * w / total ≤ w = div-le_of_le-mul total {m = total * w} {n = w} (omega arith) in
    omega (arith, most, whole)

-- ---- the widths

-- a property of all cuts of the shares is one of the widths of columns side by side
pub of_widths : (w : ℕ) (needs : List ColumnNeed) (P : List ℕ → Type 0) →
    ((ws : List ℕ) → stand_side_by_side w needs ≡ true → IsCut (word_minimums w needs) (word_shares w needs) w ws → P ws) →
    IfSome (widths_across w needs) P
of_widths w needs P f = by (stand_side_by_side w needs) refl
  where
    by : (b : Bool) → stand_side_by_side w needs ≡ b → IfSome (cond b (Some (cut_by_units (word_minimums w needs) (word_shares w needs) w)) None) P
    by true stand =
        f (cut_by_units (word_minimums w needs) (word_shares w needs) w) stand
        (cut_by_units-fairest (word_minimums w needs) (word_shares w needs) w (word_shares_fit w needs stand)).is_cut
    by false stand = tt

-- a cut of the shares takes at most `w` units
pub few_units_across : (w : ℕ) (needs : List ColumnNeed) → IfSome (widths_across w needs) (λ ws. sum (word_shares w needs) - sum ws ≤ w)
few_units_across w needs = of_widths w needs (λ ws. sum (word_shares w needs) - sum ws ≤ w)
    (λ ws stand cut. few-units (word_minimums w needs) (word_shares w needs) w ws (word_shares_fit w needs stand) cut (word_shares_keep w needs stand))

-- each column has at least its minimum width
pub least_across : (w : ℕ) (needs : List ColumnNeed) →
    IfSome (widths_across w needs) (λ ws. (k : ℕ) → k < length needs → get_or (least_widths needs) k 0 ≤ get_or ws k 0)
least_across w needs =
    of_widths w needs (λ ws. (k : ℕ) → k < length needs → get_or (least_widths needs) k 0 ≤ get_or ws k 0)
    (λ ws stand cut k inside.
    let low = cut.lower k (omega (arith, inside, length_minimums w needs stand)) in
    omega (arith, low, above_least w needs stand k inside))

-- if all whole widths fit, each column has at least its own
pub whole_across : (w : ℕ) (needs : List ColumnNeed) → sum (whole_widths needs) + (length needs - 1) ≤ w →
    IfSome (widths_across w needs) (λ ws. (k : ℕ) → k < length needs → get_or (whole_widths needs) k 0 ≤ get_or ws k 0)
whole_across w needs room =
    of_widths w needs (λ ws. (k : ℕ) → k < length needs → get_or (whole_widths needs) k 0 ≤ get_or ws k 0)
    (λ ws stand cut k inside.
    let low = cut.lower k (omega (arith, inside, length_minimums w needs stand)) in
    omega (arith, low, ap (λ ms. get_or ms k 0) (whole_minimums w needs room)))
