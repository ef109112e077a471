-- The preferred width of a text that is read from its start.
use Rattle.std.proofs.Common.{◌≡◌, ℕ, ◌+◌, ◌-◌, ◌<◌, ◌≤◌, min, Bool, true, false, cond, List, [], ◌∷◌, length, drop}
use Rattle.std.proofs.Common.{get_or, zero, suc, refl, sym, ap, subst, ◌∙◌, arith, inl, inr}
use Rattle.std.specs.List.{AllWithin}
use Rattle.std.proofs.lemmas.List.{drop_more, drop_all}
use Rattle.std.proofs.lemmas.Str.{chars-nil}
use Rattle.std.proofs.lemmas.Grind.{common_steps}
use Rattle.std.specs.Str.{chars}
use Rattle.html_render_layout_lines.specs.Character.{is_collapsible, width_of}
use Rattle.html_render_layout_lines.specs.laws.Characters.{plain_width}
use Rattle.std.proofs.lemmas.Bool.{cases_eq, cases_lt, eqb-true}
use Rattle.std.proofs.Math.Dec.{eqb}
use Rattle.html_render_layout_estimates.proofs.Latin.{latin_width, latin-collapsible, next-latin}
use Rattle.html_render_layout_estimates.specs.TextSize.{collapsed_columns, inner_columns, size_of, IsPlainBetween}

-- ---- characters

pub letter-collapsible : (c : ℕ) → 33 ≤ c → c ≤ 126 → is_collapsible c ≡ false
letter-collapsible c low high = grind (arith, common_steps)

pub chars-ascii : (b : ℕ) (bs : List ℕ) → b < 128 → chars (b ∷ bs) ≡ b ∷ chars bs
unfolding chars
chars-ascii b [] h = grind (arith, common_steps)
chars-ascii b (c ∷ bs) h = grind (arith, common_steps)

-- ---- the preferred width after `k` columns were counted; `spaced` says whether white space follows these

abbrev pub size_on : ℕ → Bool → List ℕ → ℕ
size_on zero false cs = size_of cs
size_on zero true cs = inner_columns cs + min (inner_columns cs) 1
size_on (suc k) spaced cs = suc k + collapsed_columns spaced cs

pub size_on-none : (k : ℕ) (spaced : Bool) → size_on k spaced [] ≡ k
size_on-none zero false = refl
size_on-none zero true = refl
size_on-none (suc k) spaced = omega arith

pub size_on-least : (k : ℕ) (spaced : Bool) (cs : List ℕ) → k ≤ size_on k spaced cs
size_on-least zero spaced cs = omega arith
size_on-least (suc k) spaced cs = omega arith

pub size_on-some : (k : ℕ) (spaced : Bool) (cs : List ℕ) → 1 ≤ k → size_on k spaced cs ≡ k + collapsed_columns spaced cs
size_on-some zero spaced cs h = absurd (omega (arith, h))
size_on-some (suc k) spaced cs h = refl

collapsed_columns-other : (c : ℕ) (cs : List ℕ) (spaced : Bool) → is_collapsible c ≡ false →
    collapsed_columns spaced (c ∷ cs) ≡ cond spaced 1 0 + width_of c + collapsed_columns false cs
collapsed_columns-other c cs spaced e = rw e refl

pub size_on-space : (k c : ℕ) (cs : List ℕ) (spaced : Bool) → is_collapsible c ≡ true → size_on k spaced (c ∷ cs) ≡ size_on k true cs
size_on-space zero c cs false e = rw e refl
size_on-space zero c cs true e = rw e refl
size_on-space (suc k) c cs spaced e = rw e refl

pub size_on-letter : (k c : ℕ) (cs : List ℕ) (spaced : Bool) → is_collapsible c ≡ false → width_of c ≡ 1 →
    size_on k spaced (c ∷ cs) ≡ size_on (k + cond spaced 2 1) false cs
size_on-letter zero c cs false e w = rw e (omega (arith, w, collapsed_columns-other c cs false e))
size_on-letter zero c cs true e w = rw e (omega (arith, w, collapsed_columns-other c cs false e))
size_on-letter (suc k) c cs false e w = omega (arith, collapsed_columns-other c cs false e, w, size_on-some (suc k + 1) false cs (omega arith))
size_on-letter (suc k) c cs true e w = omega (arith, collapsed_columns-other c cs true e, w, size_on-some (suc k + 2) false cs (omega arith))

-- ---- a text of ASCII characters, byte by byte

-- whether the preferred width of a text follows from the `k` columns before `at` and the text from `at` on
pub record Sized (bs : List ℕ) (at k : ℕ) (spaced : Bool) : Type 0 where
  pub within : at ≤ length bs
  pub few : k + cond spaced 1 0 ≤ at
  pub size : size_on k spaced (chars (drop at bs)) ≡ size_of (chars bs)

pub next-chars : (bs : List ℕ) (at : ℕ) → at < length bs → get_or bs at 0 < 128 → chars (drop at bs) ≡ get_or bs at 0 ∷ chars (drop (at + 1) bs)
next-chars bs at within small = ap chars (drop_more bs at 0 within) ∙ chars-ascii (get_or bs at 0) (drop (at + 1) bs) small

pub Sized-start : (bs : List ℕ) → Sized bs 0 0 false
Sized-start bs = record { within = omega arith; few = omega arith; size = refl }

pub Sized-letter : (bs : List ℕ) (at k n : ℕ) (spaced s : Bool) → Sized bs at k spaced → at < length bs →
    33 ≤ get_or bs at 0 → get_or bs at 0 ≤ 126 → n ≡ k + cond spaced 2 1 → s ≡ false → Sized bs (at + 1) n s
Sized-letter bs at k n spaced s w within low high is_n is_s = rw (is_n, is_s) (record {
  within = omega (arith, within);
  few = few spaced w.few;
  size = sym (size_on-letter k b (chars (drop (at + 1) bs)) spaced (letter-collapsible b low high) (plain_width b low high))
      ∙ ap (size_on k spaced) (sym (next-chars bs at within (omega arith))) ∙ w.size;
})
  where
    b : ℕ
    b = get_or bs at 0

    few : (spaced : Bool) → k + cond spaced 1 0 ≤ at → k + cond spaced 2 1 + cond false 1 0 ≤ at + 1
    few true h = omega (arith, h)
    few false h = omega (arith, h)

pub Sized-space : (bs : List ℕ) (at k n : ℕ) (spaced s : Bool) → Sized bs at k spaced → at < length bs →
    is_collapsible (get_or bs at 0) ≡ true → get_or bs at 0 < 128 → n ≡ k → s ≡ true → Sized bs (at + 1) n s
Sized-space bs at k n spaced s w within space small is_n is_s = rw (is_n, is_s) (record {
  within = omega (arith, within);
  few = omega (arith, w.few);
  size = sym (size_on-space k (get_or bs at 0) (chars (drop (at + 1) bs)) spaced space)
      ∙ ap (size_on k spaced) (sym (next-chars bs at within small)) ∙ w.size;
})

-- a letter of two bytes, from U+00C0 to U+00FF
pub Sized-latin : (bs : List ℕ) (at k n : ℕ) (spaced s : Bool) → Sized bs at k spaced → at + 1 < length bs →
    get_or bs at 0 ≡ 195 → get_or bs (at + 1) 0 < 192 → n ≡ k + cond spaced 2 1 → s ≡ false → Sized bs (at + 2) n s
Sized-latin bs at k n spaced s w within lead small is_n is_s = rw (is_n, is_s) (record {
  within = omega (arith, within);
  few = few spaced w.few;
  size = sym (size_on-letter k c (chars (drop (at + 2) bs)) spaced (latin-collapsible c low high) (latin_width c low high))
      ∙ ap (size_on k spaced) (sym (next-latin bs at within lead)) ∙ w.size;
})
  where
    c : ℕ
    c = 192 + (get_or bs (at + 1) 0 - 128)

    low : 192 ≤ c
    low = omega arith

    high : c < 256
    high = omega (arith, small)

    few : (spaced : Bool) → k + cond spaced 1 0 ≤ at → k + cond spaced 2 1 + cond false 1 0 ≤ at + 2
    few true h = omega (arith, h)
    few false h = omega (arith, h)

-- at the end of the text, or if the limit is reached, the lesser of count and limit is that of preferred width and limit
pub Sized-end : (bs : List ℕ) (at k limit : ℕ) (spaced : Bool) → Sized bs at k spaced → length bs ≤ at →
    min k limit ≡ min (size_of (chars bs)) limit
Sized-end bs at k limit spaced w end =
    let none : chars (drop at bs) ≡ [] = ap chars (drop_all at bs end) ∙ chars-nil in
    ap (λ n. min n limit) (sym (size_on-none k spaced) ∙ ap (size_on k spaced) (sym none) ∙ w.size)

pub Sized-reached : (bs : List ℕ) (at k limit : ℕ) (spaced : Bool) → Sized bs at k spaced → limit ≤ k →
    min k limit ≡ min (size_of (chars bs)) limit
Sized-reached bs at k limit spaced w reached = omega (arith, size_on-least k spaced (chars (drop at bs)), w.size, reached)

-- ---- letters at the start of a text

-- the columns of one letter and the rest
one-letter : (bs : List ℕ) (at : ℕ) (spaced : Bool) → at < length bs → 33 ≤ get_or bs at 0 → get_or bs at 0 ≤ 126 →
    collapsed_columns spaced (chars (drop at bs)) ≡ cond spaced 1 0 + 1 + collapsed_columns false (chars (drop (at + 1) bs))
one-letter bs at spaced within low high =
    let b = get_or bs at 0 in
    ap (collapsed_columns spaced) (next-chars bs at within (omega (arith, high)))
    ∙ collapsed_columns-other b (chars (drop (at + 1) bs)) spaced (letter-collapsible b low high)
    ∙ omega (arith, plain_width b low high)

-- the columns of `n + 1` letters and the rest
more-letters : (bs : List ℕ) (spaced : Bool) (n : ℕ) → n + 1 ≤ length bs → AllWithin (λ b. (33 ≤ b) × (b ≤ 126)) bs 0 (n + 1) →
    collapsed_columns spaced (chars bs) ≡ cond spaced 1 0 + (n + 1) + collapsed_columns false (chars (drop (n + 1) bs))
more-letters bs spaced zero within letters =
    let letter = letters 0 0 (omega arith) (omega arith) in
    one-letter bs 0 spaced (omega (arith, within)) letter.0 letter.1
more-letters bs spaced (suc n) within letters =
    let letter = letters (n + 1) 0 (omega arith) (omega arith) in
    let before = more-letters bs spaced n (omega (arith, within)) (λ i d low high. letters i d low (omega (arith, high))) in
    let next : collapsed_columns false (chars (drop (n + 1) bs)) ≡ 1 + collapsed_columns false (chars (drop (suc n + 1) bs)) =
    one-letter bs (n + 1) false (omega (arith, within)) letter.0 letter.1
    ∙ ap (λ k. 0 + 1 + collapsed_columns false (chars (drop k bs))) (omega arith) in
    omega (arith, before, next)

pub letters-columns : (bs : List ℕ) (spaced : Bool) (n : ℕ) → 0 < n → n ≤ length bs → AllWithin (λ b. (33 ≤ b) × (b ≤ 126)) bs 0 n →
    collapsed_columns spaced (chars bs) ≡ cond spaced 1 0 + n + collapsed_columns false (chars (drop n bs))
letters-columns bs spaced zero some within letters = absurd (omega (arith, some))
letters-columns bs spaced (suc n) some within letters =
    subst (λ k. collapsed_columns spaced (chars bs) ≡ cond spaced 1 0 + k + collapsed_columns false (chars (drop k bs))) (omega arith)
    (more-letters bs spaced n (omega (arith, within)) (λ i d low high. letters i d low (omega (arith, high))))

-- ---- a space at the start of a text

pub space-columns : (bs : List ℕ) (spaced : Bool) → 0 < length bs → is_collapsible (get_or bs 0 0) ≡ true → get_or bs 0 0 < 128 →
    collapsed_columns spaced (chars bs) ≡ collapsed_columns true (chars (drop 1 bs))
space-columns bs spaced within space small = ap (collapsed_columns spaced) (next-chars bs 0 within small) ∙ behind (get_or bs 0 0) space
  where
    behind : (c : ℕ) → is_collapsible c ≡ true → collapsed_columns spaced (c ∷ chars (drop 1 bs)) ≡ collapsed_columns true (chars (drop 1 bs))
    behind c e = rw e refl

-- ---- printable ASCII in which no space follows another space

-- whether the preferred width of a text follows from its first `m` bytes, the last of which is `last`, if each of the bytes after
-- the first `d` counts one column, but for a space at the end
record Plain (bs : List ℕ) (d m last : ℕ) : Type 0 where
  pub some : d + 1 ≤ m
  pub printable : 32 ≤ last
  pub space : last ≡ 32 → Sized bs m (m - d - 1) true
  pub letter : 33 ≤ last → Sized bs m (m - d) false

no_space : (b : ℕ) → 32 ≤ b → (b ≡ 32 → ⊥) → 33 ≤ b
no_space b printable other = elim (cases_lt 32 b) [
  | inl lt ↦ omega (arith, lt)
  | inr le ↦ absurd (other (omega (arith, le, printable)))
]

Plain-next : (bs : List ℕ) (d m last : ℕ) → Plain bs d m last → m < length bs → 32 ≤ get_or bs m 0 → get_or bs m 0 ≤ 126 →
    (get_or bs m 0 ≡ 32 → last ≡ 32 → ⊥) → Plain bs d (m + 1) (get_or bs m 0)
Plain-next bs d m last w within printable small single = record {
  some = omega (arith, w.some);
  printable = printable;
  space = λ space. subst (λ k. Sized bs (m + 1) k true) (omega (arith, w.some))
      (Sized-space bs m (m - d) (m - d) false true (w.letter (no_space last w.printable (single space))) within (ap is_collapsible space) (omega (arith, space)) refl refl);
  letter = λ letter. elim (cases_eq last 32) [
    | inl before ↦ Sized-letter bs m (m - d - 1) (m + 1 - d) true false (w.space before) within letter small (omega (arith, w.some)) refl
    | inr other ↦ Sized-letter bs m (m - d) (m + 1 - d) false false (w.letter (no_space last w.printable other)) within letter small (omega (arith, w.some)) refl
  ];
}

Plain-on : (bs : List ℕ) (d s n : ℕ) → Plain bs d s (get_or bs (s - 1) 0) → s + n ≤ length bs → IsPlainBetween bs s (s + n) →
    Plain bs d (s + n) (get_or bs (s + n - 1) 0)
Plain-on bs d s zero start within plain = subst (λ k. Plain bs d k (get_or bs (k - 1) 0)) (omega arith) start
Plain-on bs d s (suc n) start within plain =
    let before = Plain-on bs d s n start (omega (arith, within)) (λ k from to. plain k from (omega (arith, to))) in
    let here = plain (s + n) (omega arith) (omega arith) in
    let next = Plain-next bs d (s + n) (get_or bs (s + n - 1) 0) before (omega (arith, within)) here.0 here.1 here.2 in
    subst (λ k. Plain bs d k (get_or bs (k - 1) 0)) (omega arith) (subst (λ k. Plain bs d (s + n + 1) (get_or bs k 0)) (omega arith) next)

pub not-eqb : (a b : ℕ) → (a ≡ b → ⊥) → eqb a b ≡ false
not-eqb a b other = by (eqb a b) refl
  where
    by : (t : Bool) → eqb a b ≡ t → eqb a b ≡ false
    by true e = absurd (other (eqb-true a b e))
    by false e = e

some_columns : (spaced : Bool) → 1 ≤ cond spaced 2 1
some_columns true = omega arith
some_columns false = omega arith

-- a letter and such bytes after it take a column for each, but for a space at their end
pub Sized-plain : (bs : List ℕ) (at k end : ℕ) (spaced : Bool) → Sized bs at k spaced → at < length bs →
    33 ≤ get_or bs at 0 → get_or bs at 0 ≤ 126 → at + 1 ≤ end → end ≤ length bs → IsPlainBetween bs (at + 1) end →
    (get_or bs (end - 1) 0 ≡ 32 → Sized bs end (k + cond spaced 2 1 + (end - (at + 1)) - 1) true)
    × ((get_or bs (end - 1) 0 ≡ 32 → ⊥) → Sized bs end (k + cond spaced 2 1 + (end - (at + 1))) false)
Sized-plain bs at k end spaced w within low high behind inside plain = (
  λ space. subst (λ n. Sized bs end n true) (omega (arith, first.few, behind)) (all.space space),
  λ other. subst (λ n. Sized bs end n false) (omega (arith, first.few, behind)) (all.letter (no_space _ all.printable other)),
)
  where
    counted : ℕ
    counted = k + cond spaced 2 1

    d : ℕ
    d = at + 1 - counted

    first : Sized bs (at + 1) counted false
    first = Sized-letter bs at k counted spaced false w within low high refl refl

    one : Plain bs d (at + 1) (get_or bs at 0)
    one = record {
      some = omega (arith, some_columns spaced);
      printable = omega (arith, low);
      space = λ space. absurd (omega (arith, space, low));
      letter = λ _. subst (λ n. Sized bs (at + 1) n false) (omega (arith, first.few)) first;
    }

    start : Plain bs d (at + 1) (get_or bs (at + 1 - 1) 0)
    start = subst (λ j. Plain bs d (at + 1) (get_or bs j 0)) (omega arith) one

    is_end : at + 1 + (end - (at + 1)) ≡ end
    is_end = omega (arith, behind)

    all : Plain bs d end (get_or bs (end - 1) 0)
    all = subst (λ m. Plain bs d m (get_or bs (m - 1) 0)) is_end (Plain-on bs d (at + 1) (end - (at + 1)) start (omega (arith, inside, is_end))
        (subst (λ m. IsPlainBetween bs (at + 1) m) (sym is_end) plain))
