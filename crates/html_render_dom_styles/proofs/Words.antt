-- The parts of a text between its white space, from the first to the last.
use Rattle.std.proofs.Common.{◌≡◌, ℕ, suc, ◌+◌, ◌-◌, ◌<◌, ◌≤◌, inl, inr, Bool, true, false, ◌||◌, ◌==◌, List, [], ◌∷◌, length, take, drop, Some}
use Rattle.std.proofs.Common.{None, refl, ap, ◌∙◌, arith, filter, position}
use Rattle.std.proofs.lemmas.Bool.{cases_Bool}
use Rattle.std.proofs.lemmas.List.Folds.{list_all-map}
use Rattle.std.proofs.lemmas.Grind.{common_steps}
use Rattle.std.proofs.lemmas.Bool.Decides.{nat_tests}
use borrow.Author.Tests.{eqb-true}
use Rattle.std.specs.Char.{is_ascii_whitespace}
use Rattle.std.specs.Str.{bytes_eq}
use Rattle.html_render_dom_styles.specs.Selectors.{is_filled, words}
use Rattle.std.specs.List.{list_any, slice_split, onto_first, position_or_len}

-- the parts are the items up to the first that passes, and the parts of the items after it
pub slice_split-first : {X : Type 0} (p : X → Bool) (xs : List X) → position_or_len p xs < length xs →
    slice_split p xs ≡ take (position_or_len p xs) xs ∷ slice_split p (drop (position_or_len p xs + 1) xs)
slice_split-first p [] h = absurd (omega arith)
slice_split-first p (x ∷ xs) h =
    elim (cases_Bool (p x)) [
      | inl e ↦ rw e refl
      | inr e ↦ (
          let within : 1 + position_or_len p xs < suc (length xs) = rw e at h in
          let rest = slice_split-first p xs (omega arith) in
          rw e (ap (onto_first x) rest ∙ onto_front p x xs (position_or_len p xs))
          )
    ]
  where
    onto_front : {Y : Type 0} (q : Y → Bool) (y : Y) (ys : List Y) (k : ℕ) →
        onto_first y (take k ys ∷ slice_split q (drop (k + 1) ys)) ≡ take (1 + k) (y ∷ ys) ∷ slice_split q (drop (1 + k + 1) (y ∷ ys))
    onto_front q y ys k =
        let f : 1 + k + 1 ≡ suc (k + 1) = omega arith in
        let e : 1 + k ≡ suc k = omega arith in
        rw (f, e) refl

-- if no item passes, the list is the only part
pub slice_split-none : {X : Type 0} (p : X → Bool) (xs : List X) → length xs ≤ position_or_len p xs → slice_split p xs ≡ xs ∷ []
slice_split-none p [] h = refl
slice_split-none p (x ∷ xs) h = let ih = slice_split-none p xs in grind (arith, nat_tests)

-- the first part, from the result of `position`
pub slice_split-Some : {X : Type 0} (p : X → Bool) (xs : List X) (k : ℕ) → position p xs ≡ Some k →
    slice_split p xs ≡ take k xs ∷ slice_split p (drop (k + 1) xs)
slice_split-Some p xs k e = let first = slice_split-first p xs in grind (arith, nat_tests)

pub slice_split-None : {X : Type 0} (p : X → Bool) (xs : List X) → position p xs ≡ None → slice_split p xs ≡ xs ∷ []
slice_split-None p xs e = let none = slice_split-none p xs in grind (arith, nat_tests)

-- a search is successful with the first part, continues with the other parts, or ends with the last part
pub found_first : (part rest : List ℕ) (k : ℕ) → position is_ascii_whitespace rest ≡ Some k → bytes_eq part (take k rest) ≡ true →
    list_any (bytes_eq part) (slice_split is_ascii_whitespace rest) ≡ true
found_first part rest k e t = rw (slice_split-Some is_ascii_whitespace rest k e, t) refl

pub found_later : (part rest : List ℕ) (k : ℕ) → position is_ascii_whitespace rest ≡ Some k → bytes_eq part (take k rest) ≡ false →
    list_any (bytes_eq part) (slice_split is_ascii_whitespace rest)
    ≡ list_any (bytes_eq part) (slice_split is_ascii_whitespace (take (length rest - (k + 1)) (drop (k + 1) rest)))
found_later part rest k e t = rw (slice_split-Some is_ascii_whitespace rest k e, t, to_the_end (k + 1) rest) refl
  where
    to_the_end : (n : ℕ) (xs : List ℕ) → take (length xs - n) (drop n xs) ≡ drop n xs
    to_the_end n xs = grind (arith, common_steps)

pub found_last : (part rest : List ℕ) → position is_ascii_whitespace rest ≡ None →
    list_any (bytes_eq part) (slice_split is_ascii_whitespace rest) ≡ bytes_eq part rest
found_last part rest e = rw (slice_split-None is_ascii_whitespace rest e) (or_false (bytes_eq part rest))
  where
    or_false : (b : Bool) → (b || false) ≡ b
    or_false true = refl
    or_false false = refl

-- an empty text is no word
no_word : (parts : List (List ℕ)) → list_any (bytes_eq []) (filter is_filled parts) ≡ false
no_word [] = refl
no_word ([] ∷ parts) = no_word parts
no_word ((c ∷ cs) ∷ parts) = no_word parts

-- a text that isn't empty is a part exactly if it is a word
only_words : (c : ℕ) (cs : List ℕ) (parts : List (List ℕ)) →
    list_any (bytes_eq (c ∷ cs)) (filter is_filled parts) ≡ list_any (bytes_eq (c ∷ cs)) parts
only_words c cs [] = refl
only_words c cs ([] ∷ parts) = only_words c cs parts
only_words c cs ((d ∷ ds) ∷ parts) = ap (λ b. bytes_eq (c ∷ cs) (d ∷ ds) || b) (only_words c cs parts)

pub words-empty : (class text : List ℕ) → (length class == 0) ≡ true → list_any (bytes_eq class) (words text) ≡ false
words-empty [] text e = no_word (slice_split is_ascii_whitespace text)
words-empty (c ∷ cs) text e = absurd (omega (arith, eqb-true (length (c ∷ cs)) 0 e))

pub words-filled : (class text : List ℕ) → (length class == 0) ≡ false →
    list_any (bytes_eq class) (words text) ≡ list_any (bytes_eq class) (slice_split is_ascii_whitespace text)
words-filled [] text e = cc
words-filled (c ∷ cs) text e = only_words c cs (slice_split is_ascii_whitespace text)

pub ruleset words_of = (words-empty, words-filled)

pub ruleset parts = (found_first, found_later, found_last)

pub ruleset all_of = (list_all-map)
