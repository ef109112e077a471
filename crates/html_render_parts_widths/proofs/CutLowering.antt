-- The columns at the level, and the effect of lowering the first of them on the widths.
use Rattle.std.proofs.Common.{◌≡◌, ◌≢◌, ℕ, ◌+◌, ◌-◌, ◌<◌, ◌≤◌, List, [], ◌∷◌, ◌++◌, length, refl, sym, ap, ◌∙◌, arith, get_or, set, inl, inr, suc}
use Rattle.std.proofs.Common.{zero, length-append}
use Rattle.std.proofs.Math.Seq.{get_or-append_seam}
use Rattle.std.proofs.Math.ListN.{get_or-append}
use Rattle.std.specs.List as lists
use Rattle.std.specs.List.Sorted.{IsPermutation}
use Rattle.std.proofs.lemmas.List.Edits.{swapped_from_swap}
use Rattle.std.proofs.lemmas.List.Sorted.{IsPermutation-keeps, IsPermutation-swap, length_permutation}
use Rattle.std.proofs.lemmas.List.Sums.{sum_by-set}
use Rattle.std.proofs.lemmas.List.{get_or-set_same, get_or-set_other, length-set}
use Rattle.std.proofs.lemmas.Bool.{cases_lt, cases_eq}
use Rattle.html_render_parts_widths.specs.Cuts.{slack}
use Rattle.html_render_parts_widths.specs.LevelForm.{full_width}
use Rattle.html_render_parts_widths.specs.CutSteps.{LoweredBefore, AreAtLevel, AreInOrder, AreLowered}

-- ---- the list of columns at the level

pub one-more : (ms ss : List ℕ) (level n : ℕ) (ps : List ℕ) → AreAtLevel ms ss level n ps → level ≤ slack ms ss n →
    AreAtLevel ms ss level (n + 1) (ps ++ n ∷ [])
one-more ms ss level n ps h at =
    let len : length (ps ++ n ∷ []) ≡ length ps + 1 = omega (arith, length-append ps (n ∷ [])) in
    let here : get_or (ps ++ n ∷ []) (length ps) 0 ≡ n = get_or-append_seam ps n [] 0 in
    let old : (p : ℕ) → p < length ps → get_or (ps ++ n ∷ []) p 0 ≡ get_or ps p 0 = λ p less. get_or-append ps (n ∷ []) 0 p less in
    record {
      inside = λ p less. elim (cases_lt p (length ps)) [
        | inl in_p ↦ let o = old p in_p in let t = h.inside p in_p in omega arith
        | inr le ↦ let e : p ≡ length ps = omega arith in rw (e, here) (omega arith)
      ];
      at_level = λ p less. elim (cases_lt p (length ps)) [
        | inl in_p ↦ rw (old p in_p) (h.at_level p in_p)
        | inr le ↦ let e : p ≡ length ps = omega arith in rw (e, here) at
      ];
      complete = λ k less at_k. elim (cases_lt k n) [
        | inl in_k ↦ let t = h.complete k in_k at_k in (t.0, (let l = t.1 in omega arith), old t.0 t.1 ∙ t.2)
        | inr le ↦ (length ps, omega arith, (let e : k ≡ n = omega arith in here ∙ sym e))
      ];
      distinct = λ p q in_p in_q ne. elim (cases_lt p (length ps)) [
        | inl less_p ↦ elim (cases_lt q (length ps)) [
          | inl less_q ↦ rw (old p less_p, old q less_q) (h.distinct p q less_p less_q ne)
          | inr le_q ↦ let e : q ≡ length ps = omega arith in let o = old p less_p in let t = h.inside p less_p in
              rw (e, here) (λ same. absurd (omega arith))
        ]
        | inr le_p ↦ elim (cases_lt q (length ps)) [
          | inl less_q ↦ let e : p ≡ length ps = omega arith in let o = old q less_q in let t = h.inside q less_q in
              rw (e, here) (λ same. absurd (omega arith))
          | inr le_q ↦ absurd (ne (omega arith))
        ]
      ];
    }

pub one-not : (ms ss : List ℕ) (level n : ℕ) (ps : List ℕ) → AreAtLevel ms ss level n ps → get_or ss n 0 - get_or ms n 0 < level →
    AreAtLevel ms ss level (n + 1) ps
one-not ms ss level n ps h below = record {
  inside = λ p less. let t = h.inside p less in omega arith;
  at_level = h.at_level;
  complete = λ k less at. elim (cases_lt k n) [
    | inl in_k ↦ h.complete k in_k at
    | inr le ↦ let e : k ≡ n = omega arith in absurd (let t = rw e at at in omega arith)
  ];
  distinct = h.distinct;
}

-- the list may have any order

moved : (ps : List ℕ) (i j p : ℕ) → i < length ps → j < length ps → p < length ps
    → (q : ℕ) × (q < length ps) × (get_or (lists.swap ps i j) p 0 ≡ get_or ps q 0) × (get_or (lists.swap ps i j) q 0 ≡ get_or ps p 0)
moved ps i j p in_i in_j in_p =
    let s = swapped_from_swap ps (lists.swap ps i j) i j 0 in_i in_j refl in
    elim (cases_eq p i) [
      | inl e ↦ (j, in_j, rw e s.0, rw e s.1)
      | inr ne_i ↦ elim (cases_eq p j) [
        | inl e ↦ (i, in_i, rw e s.1, rw e s.0)
        | inr ne_j ↦ (p, in_p, s.2 p ne_i ne_j, s.2 p ne_i ne_j)
      ]
    ]

swapped : (ms ss : List ℕ) (level n : ℕ) (ps : List ℕ) (i j : ℕ) → i < length ps → j < length ps → AreAtLevel ms ss level n ps →
    AreAtLevel ms ss level n (lists.swap ps i j)
swapped ms ss level n ps i j in_i in_j h =
    let len = length_permutation ps (lists.swap ps i j) (IsPermutation-swap ps (lists.swap ps i j) i j in_i in_j refl) in
    record {
      inside = λ p less. let m = moved ps i j p in_i in_j (omega arith) in rw (m.2) (h.inside m.0 m.1);
      at_level = λ p less. let m = moved ps i j p in_i in_j (omega arith) in rw (m.2) (h.at_level m.0 m.1);
      complete = λ k less at. let t = h.complete k less at in let m = moved ps i j t.0 in_i in_j t.1 in
          (m.0, (let l = m.1 in omega arith), m.3 ∙ t.2);
      distinct = λ p q in_p in_q ne same.
          let a = moved ps i j p in_i in_j (omega arith) in
          let b = moved ps i j q in_i in_j (omega arith) in
          elim (cases_eq a.0 b.0) [
            | inl e ↦ h.distinct p q (omega arith) (omega arith) ne (sym a.3 ∙ ap (λ x. get_or (lists.swap ps i j) x 0) e ∙ b.3)
            | inr other ↦ h.distinct a.0 b.0 a.1 b.1 other (sym a.2 ∙ same ∙ b.2)
          ];
    }

pub reordered : (ms ss : List ℕ) (level n : ℕ) (ps qs : List ℕ) → AreAtLevel ms ss level n ps → IsPermutation ps qs → AreAtLevel ms ss level n qs
reordered ms ss level n ps qs h moves =
    IsPermutation-keeps ps (λ l. AreAtLevel ms ss level n l) h (λ l i j in_i in_j k. swapped ms ss level n l i j in_i in_j k) qs moves

-- an order of neighbours is an order of any two
pub ordered-far : (f g : ℕ → ℕ) (n : ℕ) → ((k : ℕ) → k + 1 < n → LoweredBefore (f k) (g k) (f (k + 1)) (g (k + 1))) → (p q : ℕ) → p < q →
    q < n → LoweredBefore (f p) (g p) (f q) (g q)
ordered-far f g n next p zero less in_q = absurd (omega arith)
ordered-far f g n next p (suc q) less in_q =
    let e : suc q ≡ q + 1 = omega arith in
    rw e (let step = next q (omega arith) in elim (cases_lt p q) [
      | inl below ↦ elim (ordered-far f g n next p q below (omega arith)) [
        | inl a ↦ elim step [ inl b ↦ inl (omega arith) | inr b ↦ inl (omega (arith, b.0)) ]
        | inr a ↦ elim step [ inl b ↦ inl (omega (arith, a.0)) | inr b ↦ inr (b.0 ∙ a.0, omega (arith, a.1, b.1)) ]
      ]
      | inr le ↦ let same : p ≡ q = omega arith in rw same step
    ])

-- ---- lowering the first columns

-- whether the first `d` columns are lowered, and the others aren't yet
pub record AreLoweredSoFar (ms ss ps : List ℕ) (level d : ℕ) (old ws : List ℕ) : Type 0 where
  pub are_lowered : AreLowered ms ss level d old ws
  pub done : (p : ℕ) → p < d → p < length ps → get_or ws (get_or ps p 0) 0 + 1 ≡ get_or old (get_or ps p 0) 0
  pub left : (p : ℕ) → d ≤ p → p < length ps → get_or ws (get_or ps p 0) 0 ≡ get_or old (get_or ps p 0) 0

pub none-lowered : (ms ss ps : List ℕ) (level : ℕ) (old : List ℕ) → AreLoweredSoFar ms ss ps level 0 old old
none-lowered ms ss ps level old = record {
  are_lowered = record {
    lengths = refl;
    each = λ k h. inl refl;
    total = omega arith;
    first = λ i j in_i in_j down at same. absurd (omega arith);
  };
  done = λ p less in_p. absurd (omega arith);
  left = λ p le in_p. refl;
}

-- the full width of a column at the level is its minimum plus the level
pub full-at-level : (ms ss old : List ℕ) (level k : ℕ) → ((j : ℕ) → j < length ms → get_or old j 0 ≡ full_width ms ss level j) →
    k < length ms → level ≤ slack ms ss k → get_or old k 0 ≡ get_or ms k 0 + level
full-at-level ms ss old level k full inside at = let f = full k inside in omega arith

pub next-lowered : (ms ss ps : List ℕ) (level d : ℕ) (old ws : List ℕ) → AreInOrder ms ss level ps → length old ≡ length ms →
    ((j : ℕ) → j < length ms → get_or old j 0 ≡ full_width ms ss level j)
    → 0 < level → d < length ps → AreLoweredSoFar ms ss ps level d old ws →
    AreLoweredSoFar ms ss ps level (d + 1) old (set ws (get_or ps d 0) (get_or ws (get_or ps d 0) 0 - 1))
next-lowered ms ss ps level d old ws order len_old full pos in_d h =
    let i : ℕ = get_or ps d 0 in
    let inside : get_or ps d 0 < length ms = order.are_at_level.inside d in_d in
    let at : level ≤ slack ms ss (get_or ps d 0) = order.are_at_level.at_level d in_d in
    let len_ws = h.are_lowered.lengths in
    let in_ws : get_or ps d 0 < length ws = omega arith in
    let was : get_or ws (get_or ps d 0) 0 ≡ get_or old (get_or ps d 0) 0 = h.left d (omega arith) in_d in
    let high : get_or old (get_or ps d 0) 0 ≡ get_or ms (get_or ps d 0) 0 + level =
    full-at-level ms ss old level (get_or ps d 0) full inside at in
    lowered-at ms ss ps level d (get_or ps d 0) old ws order len_old full pos in_d refl inside at in_ws was high h
  where
    lowered-at : (ms ss ps : List ℕ) (level d i : ℕ) (old ws : List ℕ) → AreInOrder ms ss level ps → length old ≡ length ms →
        ((j : ℕ) → j < length ms → get_or old j 0 ≡ full_width ms ss level j)
        → 0 < level → d < length ps → get_or ps d 0 ≡ i → i < length ms → level ≤ slack ms ss i → i < length ws →
        get_or ws i 0 ≡ get_or old i 0 → get_or old i 0 ≡ get_or ms i 0 + level
        → AreLoweredSoFar ms ss ps level d old ws → AreLoweredSoFar ms ss ps level (d + 1) old (set ws i (get_or ws i 0 - 1))
    lowered-at ms ss ps level d i old ws order len_old full pos in_d is_i inside at in_ws was high h =
        let len = h.are_lowered.lengths in
        let same : get_or (set ws i (get_or ws i 0 - 1)) i 0 ≡ get_or ws i 0 - 1 = get_or-set_same ws i (get_or ws i 0 - 1) 0 in_ws in
        let other : (k : ℕ) → k ≢ i → get_or (set ws i (get_or ws i 0 - 1)) k 0 ≡ get_or ws k 0 =
        λ k ne. get_or-set_other ws i k (get_or ws i 0 - 1) 0 ne in
        record {
          are_lowered = record {
            lengths = length-set ws i (get_or ws i 0 - 1) ∙ len;
            each = λ k less. elim (cases_eq k i) [
              | inl e ↦ inr (pos, rw e at, rw (e, same) (omega arith))
              | inr ne ↦ rw (other k ne) (h.are_lowered.each k less)
            ];
            total = omega (arith, sum_by-set (λ x. x) ws i (get_or ws i 0 - 1) 0 in_ws, h.are_lowered.total);
            first = λ a b in_a in_b down at_b up. elim (cases_eq b i) [
              | inl f ↦ absurd (let g = rw (f, same) at up in omega arith)
              | inr ne_b ↦ let up_b : get_or ws b 0 ≡ get_or old b 0 = sym (other b ne_b) ∙ up in elim (cases_eq a i) [
                | inl e ↦
                    let high_b = full-at-level ms ss old level b full (omega arith) at_b in
                    let found : (q : ℕ) → q < length ps → get_or ps q 0 ≡ b → LoweredBefore (get_or old i 0) i (get_or old b 0) b =
                    λ q in_q is_b. elim (cases_lt q d) [
                      | inl less ↦ absurd (let was_done = rw is_b at (h.done q less in_q) in omega arith)
                      | inr le ↦ elim (cases_eq q d) [
                        | inl f ↦ absurd (ne_b (sym is_b ∙ ap (λ x. get_or ps x 0) f ∙ is_i))
                        | inr far ↦
                            let before = rw (is_i, is_b) at (order.ordered d q (omega arith) in_q) in
                            elim before [ inl l ↦ inl (omega arith) | inr l ↦ inr (omega (arith, l.0), l.1) ]
                      ]
                    ] in
                    let t = order.are_at_level.complete b (omega arith) at_b in
                    rw e (found t.0 t.1 t.2)
                | inr ne_a ↦ let o = other a ne_a in h.are_lowered.first a b in_a in_b (omega arith) at_b up_b
              ]
            ];
          };
          done = λ p less in_p. elim (cases_eq p d) [
            | inl e ↦ rw (e, is_i, same) (omega arith)
            | inr ne ↦ rw (other (get_or ps p 0) (λ f. order.are_at_level.distinct p d in_p in_d ne (f ∙ sym is_i)))
                (h.done p (omega arith) in_p)
          ];
          left = λ p le in_p.
              let ne : p ≢ d = omega arith in
              rw (other (get_or ps p 0) (λ f. order.are_at_level.distinct p d in_p in_d ne (f ∙ sym is_i))) (h.left p (omega arith) in_p);
        }
