-- Bytes that are tested several at once.
use Rattle.std.proofs.Common.{◌≡◌, ℕ, ◌+◌, ◌-◌, ◌%◌, ◌^◌, ◌<◌, ◌≤◌, eqb, ltb, true, false, Bool, cond, not, List, map, length, get_or}
use Rattle.std.proofs.Common.{replicate, bit_and, bit_or, refl, sym, ap, ap₂, ◌∙◌, arith}
use Rattle.std.proofs.lemmas.Bool.{true≢false, not-true, eqb-true, eq-eqb, ltb-false}
use Rattle.std.proofs.lemmas.List.{length-map}
use Rattle.std.proofs.lemmas.List.Sums.{prefix_len_passes}
use Rattle.std.proofs.lemmas.Simd.{length-zip2, get_or-zip2, length-replicate, get_or-replicate, mask_l-mod, length-chunk, get_or-chunk, leading_from_mask_l}
use lib.Lanes.{chunk, zip2, mask_l, top}
use Rattle.html_render_layout_estimates.specs.TextSize.{IsPlainBetween}

-- a lane that is set where a comparison holds
abbrev lane : Bool → ℕ
lane b = cond b 255 0

clear_lane : (low high space before : Bool) → top 7 (bit_or (bit_or (lane low) (lane high)) (bit_and (lane space) (lane before))) ≡ false →
    (low ≡ false) × (high ≡ false) × (space ≡ true → before ≡ false)
clear_lane false false true true e = absurd (true≢false e)
clear_lane false false true false e = (refl, refl, λ s. refl)
clear_lane false false false before e = (refl, refl, λ s. absurd (true≢false (sym s)))
clear_lane false true true true e = absurd (true≢false e)
clear_lane false true true false e = absurd (true≢false e)
clear_lane false true false true e = absurd (true≢false e)
clear_lane false true false false e = absurd (true≢false e)
clear_lane true false true true e = absurd (true≢false e)
clear_lane true false true false e = absurd (true≢false e)
clear_lane true false false true e = absurd (true≢false e)
clear_lane true false false false e = absurd (true≢false e)
clear_lane true true true true e = absurd (true≢false e)
clear_lane true true true false e = absurd (true≢false e)
clear_lane true true false true e = absurd (true≢false e)
clear_lane true true false false e = absurd (true≢false e)

-- the lane of each byte is clear if the mask of their lanes is 0
lane_at : (s : List ℕ) (at : ℕ) (less hit : ℕ → ℕ → ℕ) → 0 < at → at + 8 ≤ length s →
    eqb (mask_l (map (top 7) (zip2 bit_or (zip2 bit_or (zip2 less (chunk at 8 s) (replicate 8 32)) (zip2 less (replicate 8 126) (chunk at 8 s)))
    (zip2 bit_and (zip2 hit (chunk at 8 s) (replicate 8 32)) (zip2 hit (chunk (at - 1) 8 s) (replicate 8 32))))) % 2 ^ 64) 0 ≡ true →
    (k : ℕ) → at ≤ k → k < at + 8 →
    top 7 (bit_or (bit_or (less (get_or s k 0) 32) (less 126 (get_or s k 0))) (bit_and (hit (get_or s k 0) 32) (hit (get_or s (k - 1) 0) 32))) ≡ false
lane_at s at less hit some room none k from to =
    let j : ℕ = k - at in
    let lt : j < 8 = omega (arith, from, to) in
    let here : List ℕ = chunk at 8 s in
    let before : List ℕ = chunk (at - 1) 8 s in
    let spaces : List ℕ = replicate 8 32 in
    let tildes : List ℕ = replicate 8 126 in
    let long_here : length here ≡ 8 = length-chunk at 8 s room in
    let long_before : length before ≡ 8 = length-chunk (at - 1) 8 s (omega (arith, some, room)) in
    let long_spaces : length spaces ≡ 8 = length-replicate {A = ℕ} 8 32 in
    let long_tildes : length tildes ≡ 8 = length-replicate {A = ℕ} 8 126 in
    let low : List ℕ = zip2 less here spaces in
    let high : List ℕ = zip2 less tildes here in
    let now : List ℕ = zip2 hit here spaces in
    let last : List ℕ = zip2 hit before spaces in
    let long_low : length low ≡ 8 = length-zip2 less here spaces (long_here ∙ sym long_spaces) ∙ long_here in
    let long_high : length high ≡ 8 = length-zip2 less tildes here (long_tildes ∙ sym long_here) ∙ long_tildes in
    let long_now : length now ≡ 8 = length-zip2 hit here spaces (long_here ∙ sym long_spaces) ∙ long_here in
    let long_last : length last ≡ 8 = length-zip2 hit before spaces (long_before ∙ sym long_spaces) ∙ long_before in
    let outside : List ℕ = zip2 bit_or low high in
    let doubled : List ℕ = zip2 bit_and now last in
    let long_outside : length outside ≡ 8 = length-zip2 bit_or low high (long_low ∙ sym long_high) ∙ long_low in
    let long_doubled : length doubled ≡ 8 = length-zip2 bit_and now last (long_now ∙ sym long_last) ∙ long_now in
    let all : List ℕ = zip2 bit_or outside doubled in
    let long : length all ≡ 8 = length-zip2 bit_or outside doubled (long_outside ∙ sym long_doubled) ∙ long_outside in
    let mask = mask_l-mod (map (top 7) all) 64 (omega (arith, length-map all (top 7), long)) in
    let whole = leading_from_mask_l (top 7) all (sym mask ∙ eqb-true _ 0 none) in
    let clear = not-true _ (prefix_len_passes (λ x. not (top 7 x)) all j 0 (omega (arith, whole, long, lt))) in
    let here_at : get_or here j 0 ≡ get_or s k 0 = get_or-chunk at 8 s j 0 lt ∙ ap (λ i. get_or s i 0) (omega (arith, from)) in
    let before_at : get_or before j 0 ≡ get_or s (k - 1) 0 =
    get_or-chunk (at - 1) 8 s j 0 lt ∙ ap (λ i. get_or s i 0) (omega (arith, from, some)) in
    let space_at : get_or spaces j 0 ≡ 32 = get_or-replicate {A = ℕ} 8 j 32 0 lt in
    let tilde_at : get_or tildes j 0 ≡ 126 = get_or-replicate {A = ℕ} 8 j 126 0 lt in
    let outside_at =
    get_or-zip2 bit_or low high j 0 0 0 (omega (arith, lt, long_low)) (omega (arith, lt, long_high))
    ∙ ap₂ bit_or (get_or-zip2 less here spaces j 0 0 0 (omega (arith, lt, long_here)) (omega (arith, lt, long_spaces)) ∙ ap₂ less here_at space_at)
    (get_or-zip2 less tildes here j 0 0 0 (omega (arith, lt, long_tildes)) (omega (arith, lt, long_here)) ∙ ap₂ less tilde_at here_at) in
    let doubled_at =
    get_or-zip2 bit_and now last j 0 0 0 (omega (arith, lt, long_now)) (omega (arith, lt, long_last))
    ∙ ap₂ bit_and (get_or-zip2 hit here spaces j 0 0 0 (omega (arith, lt, long_here)) (omega (arith, lt, long_spaces)) ∙ ap₂ hit here_at space_at)
    (get_or-zip2 hit before spaces j 0 0 0 (omega (arith, lt, long_before)) (omega (arith, lt, long_spaces)) ∙ ap₂ hit before_at space_at) in
    let value =
    get_or-zip2 bit_or outside doubled j 0 0 0 (omega (arith, lt, long_outside)) (omega (arith, lt, long_doubled)) ∙ ap₂ bit_or outside_at doubled_at in
    sym (ap (top 7) value) ∙ clear

pub plain_block : (s : List ℕ) (at : ℕ) → 0 < at → at + 8 ≤ length s →
    eqb (mask_l (map (top 7) (zip2 bit_or (zip2 bit_or (zip2 (λ a b. cond (ltb a b) 255 0) (chunk at 8 s) (replicate 8 32))
    (zip2 (λ a b. cond (ltb a b) 255 0) (replicate 8 126) (chunk at 8 s)))
    (zip2 bit_and (zip2 (λ a b. cond (eqb a b) 255 0) (chunk at 8 s) (replicate 8 32))
    (zip2 (λ a b. cond (eqb a b) 255 0) (chunk (at - 1) 8 s) (replicate 8 32))))) % 2 ^ 64) 0 ≡ true →
    IsPlainBetween s at (at + 8)
plain_block s at some room none k from to =
    let b = get_or s k 0 in
    let p = get_or s (k - 1) 0 in
    let clear = clear_lane (ltb b 32) (ltb 126 b) (eqb b 32) (eqb p 32)
    (lane_at s at (λ a b. cond (ltb a b) 255 0) (λ a b. cond (eqb a b) 255 0) some room none k from to) in (
      ltb-false b 32 clear.0,
      ltb-false 126 b clear.1,
      λ space before. true≢false (sym (eq-eqb p 32 before) ∙ clear.2 (eq-eqb b 32 space)),
    )
