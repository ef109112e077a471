-- The columns at the level as the code lists them, and the order into which it sorts them.
use Rattle.std.proofs.Common.{◌≡◌, ◌≢◌, ℕ, ◌+◌, ◌-◌, ◌<◌, ◌≤◌, List, [], ◌∷◌, ◌++◌, All, map, length, min, take, sym, ap, ◌∙◌, arith, get_or, set}
use Rattle.std.proofs.Common.{length-append}
use Rattle.std.proofs.lemmas.List.{map-append, get_or-map, get_or-take, length-map, length-take}
use Rattle.std.proofs.lemmas.List.Sums.{sum_by_more}
use Rattle.std.proofs.lemmas.List.Elements.{All-append}
use Rattle.std.proofs.lemmas.List.Sorted.{IsPermutation-map, All-permutation}
use Rattle.std.proofs.lemmas.Bool.Decides.{nat_tests}
use Rattle.std.specs.List.Sorted.{IsPermutation}
use Rattle.std.specs.Ordering.{nat_cmp, ordering_then, is_lt}
use Rattle.std.specs.Prelude.{false}
use Rattle.html_render_parts_widths.specs.Cuts.{slack}
use Rattle.html_render_parts_widths.specs.LevelForm.{capped_sum, ranges, full_width}
use Rattle.html_render_parts_widths.specs.CutSteps.{AreAtLevel, AreInOrder, AreLowered, LoweredBefore}
use Rattle.html_render_parts_widths.specs.declared.lowering.AtLevel.{AtLevel}
use Rattle.html_render_parts_widths.specs.laws.Cuts.{length-ranges, ranges-at}
use Rattle.html_render_parts_widths.proofs.CutLowering.{AreLoweredSoFar, full-at-level, next-lowered, one-more, one-not, reordered, ordered-far}

-- whether a list holds the columns at the level among the first n, with their full widths
pub record ColumnsSoFar (ms ss : List ℕ) (level n : ℕ) (cs : List AtLevel) : Type 0 where
  pub places : AreAtLevel ms ss level n (map (λ c. c.place) cs)
  pub widths : All (λ c. c.width.0 ≡ get_or ms c.place 0 + level) cs
  pub count : 0 < level → length cs + capped_sum (level - 1) (take n (ranges ms ss)) ≡ capped_sum level (take n (ranges ms ss))

one-range : (ms ss : List ℕ) (l n : ℕ) → length ms ≡ length ss → n < length ms →
    capped_sum l (take (n + 1) (ranges ms ss)) ≡ capped_sum l (take n (ranges ms ss)) + min (get_or ss n 0 - get_or ms n 0) l
one-range ms ss l n e h = rw (sym (ranges-at ms ss n e h))
    (sum_by_more (λ s. min s l) (ranges ms ss) n 0 (omega (arith, length-ranges ms ss e)))

one-width : (ms : List ℕ) (level n : ℕ) (c : AtLevel) → c.place ≡ n → c.width.0 ≡ get_or ms n 0 + level →
    All (λ x. x.width.0 ≡ get_or ms x.place 0 + level) (c ∷ [])
one-width ms level n c place width = λ k d h. let e : k ≡ 0 = omega arith in rw e (rw place width)

pub column-pushed : (ms ss : List ℕ) (level n : ℕ) (cs ds : List AtLevel) (c : AtLevel) → length ms ≡ length ss → n < length ms →
    ColumnsSoFar ms ss level n cs → level ≤ slack ms ss n
    → c.place ≡ n → c.width.0 ≡ get_or ms n 0 + level → ds ≡ cs ++ c ∷ [] → ColumnsSoFar ms ss level (n + 1) ds
column-pushed ms ss level n cs ds c e h so_far at place width is = rw is (record {
  places = rw (map-append (λ (x : AtLevel). x.place) cs (c ∷ []), place) (one-more ms ss level n (map (λ x. x.place) cs) so_far.places at);
  widths = All-append (λ (x : AtLevel). x.width.0 ≡ get_or ms x.place 0 + level) cs (c ∷ []) so_far.widths
      (one-width ms level n c place width);
  count = λ pos. let old = so_far.count pos in
      omega (arith, old, length-append cs (c ∷ []), one-range ms ss level n e h, one-range ms ss (level - 1) n e h);
})

pub column-skipped : (ms ss : List ℕ) (level n : ℕ) (cs : List AtLevel) → length ms ≡ length ss → n < length ms →
    ColumnsSoFar ms ss level n cs → get_or ss n 0 - get_or ms n 0 < level → ColumnsSoFar ms ss level (n + 1) cs
column-skipped ms ss level n cs e h so_far below = record {
  places = one-not ms ss level n (map (λ x. x.place) cs) so_far.places below;
  widths = so_far.widths;
  count = λ pos. let old = so_far.count pos in omega (arith, old, one-range ms ss level n e h, one-range ms ss (level - 1) n e h);
}

-- of two columns at different places, the one that isn't sorted after the other is lowered before it
not-behind : (width width' place place' : ℕ) → is_lt (ordering_then (nat_cmp width width') (nat_cmp place' place)) ≡ false →
    place ≢ place' → LoweredBefore width place width' place'
not-behind width width' place place' h ne = grind (arith, nat_tests)

pub sorted-in-order : (ms ss : List ℕ) (level : ℕ) (cs ds : List AtLevel) → AreAtLevel ms ss level (length ms) (map (λ c. c.place) cs) →
    All (λ c. c.width.0 ≡ get_or ms c.place 0 + level) cs → IsPermutation cs ds
    → ((k : ℕ) (d : AtLevel) → 0 ≤ k → k + 1 < length ds →
    is_lt (ordering_then (nat_cmp (get_or ds k d).width.0 (get_or ds (k + 1) d).width.0)
    (nat_cmp (get_or ds (k + 1) d).place (get_or ds k d).place)) ≡ false)
    → AreInOrder ms ss level (map (λ c. c.place) ds)
sorted-in-order ms ss level cs ds at widths moves sorted =
    let place : AtLevel → ℕ = λ c. c.place in
    let listed = reordered ms ss level (length ms) (map (λ c. c.place) cs) (map (λ c. c.place) ds) at
    (IsPermutation-map (λ (c : AtLevel). c.place) cs ds moves) in
    let wide = All-permutation (λ (c : AtLevel). c.width.0 ≡ get_or ms c.place 0 + level) cs ds moves widths in
    let none : AtLevel = record { width = record { 0 = 0 }; place = 0 } in
    let len : length (map (λ c. c.place) ds) ≡ length ds = length-map ds (λ (c : AtLevel). c.place) in
    let at_place : (k : ℕ) → k < length ds → get_or (map (λ c. c.place) ds) k 0 ≡ (get_or ds k none).place =
    λ k h. get_or-map (λ (c : AtLevel). c.place) ds k none 0 h in
    record {
      are_at_level = listed;
      ordered = ordered-far (λ p. get_or ms (get_or (map (λ c. c.place) ds) p 0) 0 + level) (λ p. get_or (map (λ c. c.place) ds) p 0)
          (length (map (λ c. c.place) ds)) (λ k h.
          let in_k : k < length ds = omega arith in
          let in_next : k + 1 < length ds = omega arith in
          let differ = listed.distinct k (k + 1) (omega arith) (omega arith) (omega arith) in
          rw (at_place k in_k, at_place (k + 1) in_next, sym (wide k none in_k), sym (wide (k + 1) none in_next))
          (not-behind _ _ _ _ (sorted k none (omega arith) in_next)
          (λ same. differ (at_place k in_k ∙ same ∙ sym (at_place (k + 1) in_next)))));
    }

-- whether the loop over the first `count` columns in order has lowered `index` of them
pub record IsLowering (ms ss : List ℕ) (level count : ℕ) (items : List AtLevel) (index : ℕ) (old ws : List ℕ) : Type 0 where
  pub columns : List AtLevel
  pub order : AreInOrder ms ss level (map (λ c. c.place) columns)
  pub prefix : items ≡ take count columns
  pub so_far : AreLoweredSoFar ms ss (map (λ c. c.place) columns) level index old ws

-- whether the loop's next column exists, and has a width above 0
pub record IsNext (ms ss : List ℕ) (level : ℕ) (old ws : List ℕ) (place : ℕ) : Type 0 where
  pub inside : place < length ws
  pub some : 0 < get_or ws place 0

place-is : (count : ℕ) (cs items : List AtLevel) (index : ℕ) → items ≡ take count cs → index < length items →
    (get_or items index (record { width = record { 0 = 0 }; place = 0 })).place ≡ get_or (map (λ c. c.place) cs) index 0
place-is count cs items index is inside =
    let none : AtLevel = record { width = record { 0 = 0 }; place = 0 } in
    let l : length items ≡ min count (length cs) = ap length is ∙ length-take count cs in
    rw is (ap (λ (c : AtLevel). c.place) (get_or-take count cs index none (omega arith))
    ∙ sym (get_or-map (λ (c : AtLevel). c.place) cs index none 0 (omega arith)))

pub lowering-next : (ms ss : List ℕ) (level count : ℕ) (items : List AtLevel) (index : ℕ) (old ws : List ℕ) → length old ≡ length ms →
    ((j : ℕ) → j < length ms → get_or old j 0 ≡ full_width ms ss level j) → 0 < level
    → IsLowering ms ss level count items index old ws → index < length items →
    IsNext ms ss level old ws (get_or items index (record { width = record { 0 = 0 }; place = 0 })).place
lowering-next ms ss level count items index old ws len full pos h inside =
    let l : length items ≡ min count (length h.columns) = ap length h.prefix ∙ length-take count h.columns in
    let in_columns : index < length h.columns = omega arith in
    let in_places : index < length (map (λ c. c.place) h.columns) = omega (arith, length-map h.columns (λ (c : AtLevel). c.place)) in
    let at = h.order.are_at_level.inside index in_places in
    let high = full-at-level ms ss old level _ full at (h.order.are_at_level.at_level index in_places) in
    let same = h.so_far.left index (omega arith) in_places in
    let lens = h.so_far.are_lowered.lengths in
    rw (place-is count h.columns items index h.prefix inside) (record { inside = omega arith; some = omega arith })

pub lowering-more : (ms ss : List ℕ) (level count : ℕ) (items : List AtLevel) (index : ℕ) (old ws : List ℕ) → length old ≡ length ms →
    ((j : ℕ) → j < length ms → get_or old j 0 ≡ full_width ms ss level j) → 0 < level
    → IsLowering ms ss level count items index old ws → index < length items
    → (place : ℕ) → place ≡ (get_or items index (record { width = record { 0 = 0 }; place = 0 })).place
    → IsLowering ms ss level count items (index + 1) old (set ws place (get_or ws place 0 - 1))
lowering-more ms ss level count items index old ws len full pos h inside place is =
    let l : length items ≡ min count (length h.columns) = ap length h.prefix ∙ length-take count h.columns in
    let in_places : index < length (map (λ c. c.place) h.columns) = omega (arith, length-map h.columns (λ (c : AtLevel). c.place)) in
    rw (is ∙ place-is count h.columns items index h.prefix inside) (record {
      columns = h.columns;
      order = h.order;
      prefix = h.prefix;
      so_far = next-lowered ms ss (map (λ c. c.place) h.columns) level index old ws h.order len full pos in_places h.so_far;
    })

pub lowering-whole : (ms ss : List ℕ) (level count : ℕ) (items : List AtLevel) (index : ℕ) (old ws : List ℕ) →
    IsLowering ms ss level count items index old ws → index ≡ count → AreLowered ms ss level count old ws
lowering-whole ms ss level count items index old ws h is = rw (sym is) h.so_far.are_lowered
