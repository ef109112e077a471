-- Characters that are tested several at once.
use Rattle.std.proofs.Common.{◌≡◌, ℕ, ◌%◌, ◌^◌, ◌<◌, ◌≤◌, ltb, zero, suc, true, false, Bool, cond, not, List, [], ◌∷◌, map, length, get_or, take}
use Rattle.std.proofs.Common.{◌&&◌, replicate, bit_or, refl, sym, ap, ap₂, ◌∙◌, arith}
use Rattle.std.proofs.lemmas.Bool.{true≢false, not-true, ltb-false, le-leb, ne_eqb, cond-false}
use Rattle.std.proofs.lemmas.Grind.{common_steps}
use Rattle.std.proofs.lemmas.List.{length-map}
use Rattle.std.proofs.lemmas.List.Sums.{prefix_len_passes, prefix_len-le-length}
use Rattle.std.proofs.lemmas.Simd.{length-zip2, get_or-zip2, length-replicate, get_or-replicate, mask_l-mod, length-chunk, get_or-chunk, first_set_mask_l, leading_from_mask_l}
use Rattle.std.specs.List.{list_all, prefix_len}
use lib.Count.{count_trailing_zeros}
use lib.Lanes.{chunk, zip2, mask_l, top}
use Rattle.html_render_layout_paragraphs.specs.Feeding.{is_ascii_from}

-- a lane that is set where a comparison holds
abbrev lane : Bool → ℕ
lane b = cond b 255 0

abbrev less : ℕ → ℕ → ℕ
less a b = lane (ltb a b)

clear_lane : (low high : Bool) → top 7 (bit_or (lane low) (lane high)) ≡ false → (low ≡ false) × (high ≡ false)
clear_lane false false e = (refl, refl)
clear_lane false true e = absurd (true≢false e)
clear_lane true false e = absurd (true≢false e)
clear_lane true true e = absurd (true≢false e)

ascii_by_bounds : (least c : ℕ) → least ≤ c → c ≤ 126 → is_ascii_from least c ≡ true
ascii_by_bounds least c low high = ap₂ (λ a b. a && b) (le-leb least c low) (le-leb c 126 high)

pub all_ascii : (least : ℕ) (s : List ℕ) (n : ℕ) → n ≤ length s → ((k : ℕ) → k < n → is_ascii_from least (get_or s k 0) ≡ true) →
    list_all (is_ascii_from least) (take n s) ≡ true
all_ascii least [] zero within each = refl
all_ascii least (x ∷ xs) zero within each = refl
all_ascii least [] (suc n) within each = absurd (omega (arith, within))
all_ascii least (x ∷ xs) (suc n) within each =
    ap₂ (λ a b. a && b) (each 0 (omega arith)) (all_ascii least xs n (omega (arith, within)) (λ k low. each (suc k) (omega (arith, low))))

-- the lanes of 8 bytes, each set where the byte is less than `least` or more than 126
abbrev lanes : ℕ → List ℕ → List ℕ
lanes least s = zip2 bit_or (zip2 less (chunk 0 8 s) (replicate 8 least)) (zip2 less (replicate 8 126) (chunk 0 8 s))

long_lanes : (least : ℕ) (s : List ℕ) → 8 ≤ length s → length (lanes least s) ≡ 8
long_lanes least s room =
    let here : List ℕ = chunk 0 8 s in
    let low : List ℕ = zip2 less here (replicate 8 least) in
    let high : List ℕ = zip2 less (replicate 8 126) here in
    let long_here : length here ≡ 8 = length-chunk 0 8 s room in
    let long_low : length low ≡ 8 =
    length-zip2 less here (replicate 8 least) (long_here ∙ sym (length-replicate {A = ℕ} 8 least)) ∙ long_here in
    let long_high : length high ≡ 8 =
    length-zip2 less (replicate 8 126) here (length-replicate {A = ℕ} 8 126 ∙ sym long_here) ∙ length-replicate {A = ℕ} 8 126 in
    length-zip2 bit_or low high (long_low ∙ sym long_high) ∙ long_low

-- a byte whose lane isn't set
clear_byte : (least : ℕ) (s : List ℕ) → 8 ≤ length s → (k : ℕ) → k < 8 → top 7 (get_or (lanes least s) k 0) ≡ false →
    is_ascii_from least (get_or s k 0) ≡ true
clear_byte least s room k lt clear =
    let here : List ℕ = chunk 0 8 s in
    let low : List ℕ = zip2 less here (replicate 8 least) in
    let high : List ℕ = zip2 less (replicate 8 126) here in
    let long_here : length here ≡ 8 = length-chunk 0 8 s room in
    let long_low : length low ≡ 8 =
    length-zip2 less here (replicate 8 least) (long_here ∙ sym (length-replicate {A = ℕ} 8 least)) ∙ long_here in
    let long_high : length high ≡ 8 =
    length-zip2 less (replicate 8 126) here (length-replicate {A = ℕ} 8 126 ∙ sym long_here) ∙ length-replicate {A = ℕ} 8 126 in
    let b = get_or s k 0 in
    let here_at : get_or here k 0 ≡ b = get_or-chunk 0 8 s k 0 lt ∙ ap (λ j. get_or s j 0) (omega arith) in
    let low_at : get_or low k 0 ≡ less b least =
    get_or-zip2 less here (replicate 8 least) k 0 0 0 (omega (arith, lt, long_here)) (omega (arith, lt, length-replicate {A = ℕ} 8 least))
    ∙ ap₂ less here_at (get_or-replicate {A = ℕ} 8 k least 0 lt) in
    let high_at : get_or high k 0 ≡ less 126 b =
    get_or-zip2 less (replicate 8 126) here k 0 0 0 (omega (arith, lt, length-replicate {A = ℕ} 8 126)) (omega (arith, lt, long_here))
    ∙ ap₂ less (get_or-replicate {A = ℕ} 8 k 126 0 lt) here_at in
    let value : get_or (lanes least s) k 0 ≡ bit_or (less b least) (less 126 b) =
    get_or-zip2 bit_or low high k 0 0 0 (omega (arith, lt, long_low)) (omega (arith, lt, long_high)) ∙ ap₂ bit_or low_at high_at in
    let bounds = clear_lane (ltb b least) (ltb 126 b) (sym (ap (top 7) value) ∙ clear) in
    ascii_by_bounds least b (ltb-false b least bounds.0) (ltb-false 126 b bounds.1)

mask : (least : ℕ) (s : List ℕ) → 8 ≤ length s → mask_l (map (top 7) (lanes least s)) % 2 ^ 64 ≡ mask_l (map (top 7) (lanes least s))
mask least s room =
    mask_l-mod (map (top 7) (lanes least s)) 64 (omega (arith, length-map (lanes least s) (top 7), long_lanes least s room))

-- the number of the 8 bytes before the first one whose lane is set
abbrev clear_count : ℕ → List ℕ → ℕ
clear_count least s = prefix_len (λ x. not (top 7 x)) (lanes least s)

clear_bytes : (least : ℕ) (s : List ℕ) → 8 ≤ length s → (n : ℕ) → n ≡ clear_count least s →
    (n ≤ 8) × (list_all (is_ascii_from least) (take n s) ≡ true)
clear_bytes least s room n counted =
    let bound : n ≤ 8 = omega (arith, counted, prefix_len-le-length (λ x. not (top 7 x)) (lanes least s), long_lanes least s room) in (
      bound,
      all_ascii least s n (omega (arith, bound, room)) (λ k before. clear_byte least s room k (omega (arith, before, bound))
          (not-true _ (prefix_len_passes (λ x. not (top 7 x)) (lanes least s) k 0 (omega (arith, counted, before))))),
    )

-- Before the first of 8 bytes whose lane is set, each is printable ASCII from `least` on.
pub ascii_nearby : (least : ℕ) (s : List ℕ) → 8 ≤ length s → (mask_l (map (top 7) (lanes least s)) % 2 ^ 64 ≡ 0 → ⊥) →
    (n : ℕ) → n ≡ count_trailing_zeros 64 (mask_l (map (top 7) (lanes least s)) % 2 ^ 64) →
    (n ≤ 8) × (list_all (is_ascii_from least) (take n s) ≡ true)
ascii_nearby least s room some n is =
    clear_bytes least s room n (is ∙ ap (count_trailing_zeros 64) (mask least s room)
    ∙ sym (cond-false _ _ _ (ne_eqb _ _ (λ none. some (mask least s room ∙ none))))
    ∙ first_set_mask_l (top 7) (lanes least s) 8 (long_lanes least s room) (omega arith))

-- Where no lane is set, each of the 8 bytes is.
pub ascii_block : (least : ℕ) (s : List ℕ) → 8 ≤ length s → mask_l (map (top 7) (lanes least s)) % 2 ^ 64 ≡ 0 →
    list_all (is_ascii_from least) (take 8 s) ≡ true
ascii_block least s room none =
    (clear_bytes least s room 8 (sym (leading_from_mask_l (top 7) (lanes least s) (sym (mask least s room) ∙ none)
    ∙ long_lanes least s room))).1
