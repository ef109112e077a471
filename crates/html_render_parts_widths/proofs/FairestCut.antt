-- The level form is the fairest cut, and it is unique.
use Rattle.std.proofs.Common.{◌≡◌, ℕ, ◌+◌, ◌<◌, ◌≤◌, List, [], ◌∷◌, length, min, sum, refl, sym, ◌∙◌, arith, get_or, suc}
use Rattle.std.proofs.lemmas.List.Sums.{sum_by-cons}
use Rattle.html_render_parts_widths.specs.Cuts.{largest_slack, cut_by_units, CutFits, IsCut, IsFairestCut}
use Rattle.html_render_parts_widths.specs.LevelForm.{capped_sum, ranges, full_width, wanted, IsLevel, IsLevelForm}
use Rattle.html_render_parts_widths.specs.laws.Cuts.{length-ranges, ranges-at, sum-ranges, minimums-fit, fairest-only, few-units, neighbours-cut, cut-within}
use Rattle.html_render_parts_widths.specs.laws.UnitCut.{cut_by_units-fairest}
use Rattle.html_render_parts_widths.specs.ColumnCuts.{IsColumnCut}
use Rattle.html_render_parts_widths.specs.CutSteps.{AreLowered}
use Rattle.html_render_parts_widths.proofs.CutLevelForm.{sum_at-capped, sum_at-zip, level-reached, level-covers, fairest-form}

-- ---- the level form is a fairest cut

pub fairest : (ms ss : List ℕ) (w : ℕ) (ws : List ℕ) (level lowered : ℕ) → CutFits ms ss w → IsLevelForm ms ss w ws level lowered →
    IsFairestCut ms ss w ws
fairest ms ss w ws level lowered fits form = record {
  is_cut = record {
    lengths = form.lengths;
    lower = λ k h. let e = fits.each k h in let f = form.each k h in grind arith;
    upper = λ k h. let e = fits.each k h in let f = form.each k h in grind arith;
    total = λ some. omega (arith, form.count, form.rest, minimums-fit ms ss w fits);
  };
  last_unit = λ i j in_i in_j ne below.
      let a = form.each i in_i in let b = form.each j in_j in let c = form.first i j in_i in_j in grind arith;
}

-- ---- no cut has a smaller largest slack

pub least-slack : (ms ss : List ℕ) (w : ℕ) (ws : List ℕ) (level lowered : ℕ) → CutFits ms ss w → IsLevelForm ms ss w ws level lowered
    → (vs : List ℕ) → IsCut ms ss w vs → largest_slack ms ws ≤ largest_slack ms vs
least-slack ms ss w ws level lowered fits form vs cut =
    omega (arith, level-covers ms ss w ws level lowered fits form, level-reached ms ss w ws level lowered fits form vs cut)

pub wanted-le : (ms ss : List ℕ) (w : ℕ) → CutFits ms ss w → wanted ms ss w ≤ sum (ranges ms ss)
wanted-le ms ss w h = let e = sum-ranges ms ss h.lengths h.each in omega arith

-- full widths add up to the sum of the minimums plus the sum of the capped ranges
pub sum-full_width : (ms ss ws : List ℕ) (l : ℕ) → length ws ≡ length ms → length ss ≡ length ms →
    ((k : ℕ) → k < length ms → get_or ws k 0 ≡ get_or ms k 0 + min (get_or ss k 0) l) → sum ws ≡ sum ms + capped_sum l ss
sum-full_width [] [] [] l e f h = refl
sum-full_width (m ∷ ms) (s ∷ ss) (w ∷ ws) l e f h =
    let here : w ≡ m + min s l = h 0 (omega arith) in
    let rest = sum-full_width ms ss ws l (omega arith) (omega arith) (λ k less. h (suc k) (omega arith)) in
    omega (arith, here, rest, sum_by-cons (λ x. x) w ws, sum_by-cons (λ x. x) m ms, sum_by-cons (λ x. min x l) s ss)
sum-full_width ms ss ws l e f h = cc

-- full widths, of which the first at the level are lowered, are the level form
pub form-lowered : (ms ss : List ℕ) (w : ℕ) (old ws : List ℕ) (level lowered : ℕ) → CutFits ms ss w →
    IsLevel level (ranges ms ss) (wanted ms ss w) → lowered + wanted ms ss w ≡ capped_sum level (ranges ms ss)
    → length old ≡ length ms → ((k : ℕ) → k < length ms → get_or old k 0 ≡ full_width ms ss level k)
    → AreLowered ms ss level lowered old ws → IsLevelForm ms ss w ws level lowered
form-lowered ms ss w old ws level lowered fits is rest len each low =
    let all = sum-full_width ms (ranges ms ss) old level len (length-ranges ms ss fits.lengths)
    (λ k h. rw (each k h, ranges-at ms ss k fits.lengths h) refl) in
    record {
      is_level = is;
      rest = rest;
      lengths = low.lengths ∙ len;
      each = λ k h. let f = each k h in let l = low.each k (omega arith) in grind arith;
      count = low.total ∙ all;
      first = λ i j in_i in_j down at same. let f = each i in_i in let g = each j in_j in
          let t = low.first i j (omega arith) (omega arith) (down.2 ∙ sym f) at (same ∙ sym g) in grind arith;
    }

-- ---- the level form is unique

pub level-only : (rs : List ℕ) (w l m : ℕ) → IsLevel l rs w → IsLevel m rs w → l ≡ m
level-only rs w l m p q = let a = q.least l in let b = p.least m in let c = p.enough in let d = q.enough in grind arith

pub form-only : (ms ss : List ℕ) (w : ℕ) (ws vs : List ℕ) (l m d e : ℕ) → CutFits ms ss w → IsLevelForm ms ss w ws l d →
    IsLevelForm ms ss w vs m e → (ws ≡ vs) × (l ≡ m) × (d ≡ e)
form-only ms ss w ws vs l m d e fits p q =
    let same = level-only _ _ l m p.is_level q.is_level in (
      fairest-only ms ss w ws vs (fairest ms ss w ws l d fits p) (fairest ms ss w vs m e fits q),
      same,
      let a = p.rest in let b = rw (sym same) at q.rest in omega arith,
    )

-- ---- all promises of a cut

pub column-cut : (ms ss : List ℕ) (w : ℕ) (ws : List ℕ) (level lowered : ℕ) → CutFits ms ss w → IsLevelForm ms ss w ws level lowered →
    IsColumnCut ms ss w ws level lowered
column-cut ms ss w ws level lowered fits form =
    let best = fairest ms ss w ws level lowered fits form in
    record {
      fairest = best;
      only_fairest = λ other h. fairest-only ms ss w other ws h best;
      by_units = sym (fairest-only ms ss w (cut_by_units ms ss w) ws (cut_by_units-fairest ms ss w fits) best);
      at_level = omega (arith, level-covers ms ss w ws level lowered fits form, level-reached ms ss w ws level lowered fits form ws best.is_cut);
      lack = form.count ∙ sym (sum_at-zip level ms ss ∙ sum_at-capped ms ss level fits.lengths fits.each);
      within = cut-within ms ss w ws fits best.is_cut;
      least_slack = λ other h. least-slack ms ss w ws level lowered fits form other h;
      units_taken = λ few. few-units ms ss w ws fits best.is_cut few;
      neighbours = neighbours-cut ms ss w ws best.is_cut;
    }

pub cut-form : (ms ss : List ℕ) (w : ℕ) (ws : List ℕ) (level lowered : ℕ) → CutFits ms ss w → IsColumnCut ms ss w ws level lowered →
    IsLevelForm ms ss w ws level lowered
cut-form ms ss w ws level lowered fits cut =
    rw cut.at_level (fairest-form ms ss w ws fits cut.fairest lowered ((rw cut.at_level at cut.lack) ∙ sum_at-zip (largest_slack ms ws) ms ss))
