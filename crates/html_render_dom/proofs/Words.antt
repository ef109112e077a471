-- The words of a text, from the first to the last.
use Rattle.std.proofs.Common.{◌≡◌, ℕ, suc, ◌<◌, inl, inr, false, nat_lt, List, [], ◌∷◌, ◌++◌, length, filter, get_or, refl, sym, ap, ◌∙◌, arith}
use Rattle.std.proofs.lemmas.List.{append-nil}
use Rattle.std.proofs.lemmas.Str.{NoCharPasses-byte}
use Rattle.std.proofs.lemmas.List.Elements.{All-from_get_or}
use Rattle.std.proofs.lemmas.List.Splits.{slice_split_at, slice_split_none}
use Rattle.std.specs.List.{All, AllPass, slice_split}
use Rattle.std.specs.Str.{NoCharPasses}
use Rattle.std.specs.Str.Iter.{IsAsciiSeparator}
use Rattle.std.proofs.lemmas.Bool.{cases_Bool}
use Rattle.std.proofs.lemmas.Bool.Decides.{nat_tests}
use Rattle.std.specs.Char.{is_ascii_whitespace}
use Rattle.html_render_dom_styles.specs.Selectors.{is_filled, words}

-- white space at the start of a text has no words
gap_passed : (gap text : List ℕ) → AllPass is_ascii_whitespace gap → words (gap ++ text) ≡ words text
gap_passed [] text all = refl
gap_passed (c ∷ gap) text all =
    let this = all 0 0 (omega arith) in
    let more = gap_passed gap text (λ k d lt. all (suc k) d (omega (arith, lt))) in
    rw this more

pub no_words : (text : List ℕ) → AllPass is_ascii_whitespace text → words text ≡ []
no_words text all = ap words (sym (append-nil text)) ∙ gap_passed text [] all

pub next_word : (text gap word sep rest : List ℕ) → text ≡ gap ++ (word ++ (sep ++ rest)) → AllPass is_ascii_whitespace gap → 0 < length word →
    NoCharPasses is_ascii_whitespace word → IsAsciiSeparator sep rest → words text ≡ word ∷ words rest
next_word text gap word sep rest is all filled none separates =
    ap words is ∙ gap_passed gap (word ++ (sep ++ rest)) all ∙ ended sep rest separates
  where
    no_byte : All (λ b. is_ascii_whitespace b ≡ false) word
    no_byte = All-from_get_or (λ b. is_ascii_whitespace b ≡ false) word 0 (λ k lt. elim (cases_Bool (nat_lt (get_or word k 0) 128)) [
      | inl e ↦ NoCharPasses-byte is_ascii_whitespace word k none lt (grind (arith, nat_tests, e))
      | inr e ↦ grind (arith, nat_tests, e)
    ])

    front : (parts : List (List ℕ)) → filter is_filled (word ∷ parts) ≡ word ∷ filter is_filled parts
    front parts = first word filled
      where
        first : (w : List ℕ) → 0 < length w → filter is_filled (w ∷ parts) ≡ w ∷ filter is_filled parts
        first [] lt = absurd (omega (arith, lt))
        first (c ∷ cs) lt = refl

    ended : (s r : List ℕ) → IsAsciiSeparator s r → words (word ++ (s ++ r)) ≡ word ∷ words r
    ended [] [] separates = ap words (append-nil word) ∙ ap (filter is_filled) (slice_split_none is_ascii_whitespace word no_byte) ∙ front []
    ended [] (c ∷ r) (all, short, over) = absurd (omega (arith, over refl))
    ended (c ∷ []) r (all, short, over) =
        ap (filter is_filled) (slice_split_at is_ascii_whitespace word c r no_byte (all 0 0 (omega arith))) ∙ front (slice_split is_ascii_whitespace r)
    ended (c ∷ d ∷ s) r (all, short, over) = absurd (omega (arith, short))
