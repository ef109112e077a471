-- Shapes of texts that are read word by word.
use Rattle.std.proofs.Common.{◌≡◌, ℕ, ◌+◌, ◌-◌, ◌^◌, max, ◌==◌, ◌<◌, ◌≤◌, true, false, List, length, drop, get_or, zero, suc}
use Rattle.std.proofs.Common.{refl, ap, subst, ◌∙◌, arith}
use Rattle.std.specs.List.{AllWithin}
use Rattle.std.proofs.lemmas.Grind.{common_steps}
use Rattle.std.specs.Str.{chars}
use Rattle.html_render_layout_lines.specs.Character.{is_collapsible}
use Rattle.html_render_layout_lines.specs.laws.Characters.{plain_width}
use Rattle.html_render_layout_estimates.specs.TextSize.{saturated}
use Rattle.html_render_layout_estimates.specs.Words.{word_break, joined_shapes}
use Rattle.html_render_layout_estimates.specs.WordSteps.{character_shape, shape_after}
use Rattle.html_render_layout_estimates.specs.declared.words.WordShape.{WordShape}
use Rattle.html_render_layout_estimates.specs.declared.words.WordShape.TheVariants.{Part, Broken}
use Rattle.html_render_layout_estimates.proofs.Sizes.{letter-collapsible, next-chars}

no-break : (c : ℕ) → c ≤ 126 → (c == 0x200B) ≡ false
no-break c high = grind (arith, common_steps)

letter-shape : (c : ℕ) → 33 ≤ c → c ≤ 126 → character_shape c ≡ Part 1
letter-shape c low high = rw (letter-collapsible c low high, no-break c high) (ap (λ w. Part w) (plain_width c low high))

space-break : (c : ℕ) → is_collapsible c ≡ true → character_shape c ≡ word_break
space-break c space = rw space refl

one-more : (s : WordShape) (n : ℕ) → joined_shapes (joined_shapes s (Part n)) (Part 1) ≡ joined_shapes s (Part (n + 1))
one-more (Part columns) n = ap (λ m. Part m) (omega arith)
one-more (Broken first longest last) n = ap (λ m. Broken first longest m) (omega arith)

one-letter : (bs : List ℕ) (at : ℕ) (s : WordShape) → at < length bs → 33 ≤ get_or bs at 0 → get_or bs at 0 ≤ 126 →
    shape_after s (chars (drop at bs)) ≡ shape_after (joined_shapes s (Part 1)) (chars (drop (at + 1) bs))
one-letter bs at s within low high =
    let b = get_or bs at 0 in
    ap (λ cs. shape_after s cs) (next-chars bs at within (omega (arith, high)))
    ∙ ap (λ t. shape_after (joined_shapes s t) (chars (drop (at + 1) bs))) (letter-shape b low high)

more-letters : (bs : List ℕ) (s : WordShape) (n : ℕ) → n + 1 ≤ length bs → AllWithin (λ b. (33 ≤ b) × (b ≤ 126)) bs 0 (n + 1) →
    shape_after s (chars bs) ≡ shape_after (joined_shapes s (Part (n + 1))) (chars (drop (n + 1) bs))
more-letters bs s zero within letters =
    let letter = letters 0 0 (omega arith) (omega arith) in
    one-letter bs 0 s (omega (arith, within)) letter.0 letter.1
more-letters bs s (suc n) within letters =
    let same : n + 1 + 1 ≡ suc n + 1 = omega arith in
    let letter = letters (n + 1) 0 (omega arith) (omega arith) in
    more-letters bs s n (omega (arith, within)) (λ i d low high. letters i d low (omega (arith, high)))
    ∙ one-letter bs (n + 1) (joined_shapes s (Part (n + 1))) (omega (arith, within)) letter.0 letter.1
    ∙ ap (λ t. shape_after t (chars (drop (n + 1 + 1) bs))) (one-more s (n + 1))
    ∙ ap (λ k. shape_after (joined_shapes s (Part k)) (chars (drop k bs))) same

-- letters at the start of a text are a part of a word, one column each
pub letters-shape : (bs : List ℕ) (s : WordShape) (n : ℕ) → 0 < n → n ≤ length bs → AllWithin (λ b. (33 ≤ b) × (b ≤ 126)) bs 0 n →
    shape_after s (chars bs) ≡ shape_after (joined_shapes s (Part n)) (chars (drop n bs))
letters-shape bs s zero some within letters = absurd (omega (arith, some))
letters-shape bs s (suc n) some within letters =
    let same : n + 1 ≡ suc n = omega arith in
    subst (λ k. shape_after s (chars bs) ≡ shape_after (joined_shapes s (Part k)) (chars (drop k bs))) same
    (more-letters bs s n (omega (arith, within)) (λ i d low high. letters i d low (omega (arith, high))))

-- a space at the start of a text is a break
pub space-shape : (bs : List ℕ) (s : WordShape) → 0 < length bs → is_collapsible (get_or bs 0 0) ≡ true → get_or bs 0 0 < 128 →
    shape_after s (chars bs) ≡ shape_after (joined_shapes s word_break) (chars (drop 1 bs))
space-shape bs s within space small =
    ap (λ cs. shape_after s cs) (next-chars bs 0 within small)
    ∙ ap (λ t. shape_after (joined_shapes s t) (chars (drop 1 bs))) (space-break (get_or bs 0 0) space)

-- ---- words after the first space of a text

closed : (s : WordShape) (n : ℕ) → joined_shapes (joined_shapes s (Part n)) word_break ≡ joined_shapes s (Broken n 0 0)
closed (Part columns) n = ap (λ m. Broken m 0 0) (omega arith)
closed (Broken first longest last) n = ap (λ m. Broken first m 0) (omega arith)

closed-on : (s : WordShape) (f l n : ℕ) → n ≤ 2 ^ 64 - 1 → joined_shapes (joined_shapes s (Broken f l n)) word_break ≡ joined_shapes s (Broken f (max l n) 0)
closed-on (Part columns) f l n small = ap (λ m. Broken (saturated (columns + f)) m 0) (omega (arith, small))
closed-on (Broken first longest last) f l n small = ap (λ m. Broken first m 0) (omega (arith, small))

longer : (s : WordShape) (f l n : ℕ) → n + 1 ≤ 2 ^ 64 - 1 → joined_shapes (joined_shapes s (Broken f l n)) (Part 1) ≡ joined_shapes s (Broken f l (n + 1))
longer (Part columns) f l n small = ap (λ m. Broken (saturated (columns + f)) l m) (omega (arith, small))
longer (Broken first longest last) f l n small = ap (λ m. Broken first (max longest (max l (saturated (last + f)))) m) (omega (arith, small))

space-on : (bs : List ℕ) (s : WordShape) (at : ℕ) → at < length bs → is_collapsible (get_or bs at 0) ≡ true → get_or bs at 0 < 128 →
    shape_after s (chars (drop at bs)) ≡ shape_after (joined_shapes s word_break) (chars (drop (at + 1) bs))
space-on bs s at within space small =
    ap (λ cs. shape_after s cs) (next-chars bs at within small)
    ∙ ap (λ t. shape_after (joined_shapes s t) (chars (drop (at + 1) bs))) (space-break (get_or bs at 0) space)

-- whether the first `at` bytes have the shape `Broken first longest last`
pub record Words (bs : List ℕ) (first longest last at : ℕ) : Type 0 where
  pub some : 1 ≤ at
  pub within : at ≤ length bs
  pub few : last ≤ at
  pub joined : (s : WordShape) → shape_after s (chars bs) ≡ shape_after (joined_shapes s (Broken first longest last)) (chars (drop at bs))

pub Words-start : (bs : List ℕ) (first : ℕ) → first < length bs → AllWithin (λ b. (33 ≤ b) × (b ≤ 126)) bs 0 first →
    is_collapsible (get_or bs first 0) ≡ true → get_or bs first 0 < 128 → Words bs first 0 0 (first + 1)
Words-start bs first within letters space small = record {
  some = omega arith;
  within = omega (arith, within);
  few = omega arith;
  joined = λ s. by first s within letters space small;
}
  where
    by : (n : ℕ) (s : WordShape) → n < length bs → AllWithin (λ b. (33 ≤ b) × (b ≤ 126)) bs 0 n → is_collapsible (get_or bs n 0) ≡ true → get_or bs n 0 < 128 →
        shape_after s (chars bs) ≡ shape_after (joined_shapes s (Broken n 0 0)) (chars (drop (n + 1) bs))
    by zero s within letters space small = space-on bs s 0 within space small
    by (suc n) s within letters space small =
        letters-shape bs s (suc n) (omega arith) (omega (arith, within)) letters
        ∙ space-on bs (joined_shapes s (Part (suc n))) (suc n) within space small
        ∙ ap (λ t. shape_after t (chars (drop (suc n + 1) bs))) (closed s (suc n))

pub Words-letter : (bs : List ℕ) (first longest last at : ℕ) → Words bs first longest last at → at < length bs → last + 1 ≤ 2 ^ 64 - 1 →
    33 ≤ get_or bs at 0 → get_or bs at 0 ≤ 126 → Words bs first longest (last + 1) (at + 1)
Words-letter bs first longest last at w within small low high = record {
  some = omega arith;
  within = omega (arith, within);
  few = omega (arith, w.few);
  joined = λ s. w.joined s ∙ one-letter bs at (joined_shapes s (Broken first longest last)) within low high
      ∙ ap (λ t. shape_after t (chars (drop (at + 1) bs))) (longer s first longest last small);
}

pub Words-space : (bs : List ℕ) (first longest last at : ℕ) → Words bs first longest last at → at < length bs → last ≤ 2 ^ 64 - 1 →
    is_collapsible (get_or bs at 0) ≡ true → get_or bs at 0 < 128 → Words bs first (max longest last) 0 (at + 1)
Words-space bs first longest last at w within small space ascii = record {
  some = omega arith;
  within = omega (arith, within);
  few = omega arith;
  joined = λ s. w.joined s ∙ space-on bs (joined_shapes s (Broken first longest last)) at within space ascii
      ∙ ap (λ t. shape_after t (chars (drop (at + 1) bs))) (closed-on s first longest last small);
}
