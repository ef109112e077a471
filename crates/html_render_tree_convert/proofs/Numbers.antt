-- The number that a text is, and what `parse` reads.
use lib.Dec.{leb-suc-suc}
use Rattle.std.proofs.Common.{◌≡◌, ℕ, ◌-◌, ◌^◌, ◌<◌, reverse, inl, inr, Bool, true, ◌&&◌, if◌then◌else◌, List, [], ◌∷◌, length, map, find, option_map, Some}
use Rattle.std.proofs.Common.{None, Option, Result, Ok, Err, unwrap_or, refl, sym, ap, ◌∙◌, ◌++◌, nat_lt}
use Rattle.std.proofs.lemmas.Bool.{and_from, and_parts, cases_Bool, ltb-true, lt-ltb}
use Rattle.std.proofs.lemmas.Bool.Decides.{Decides-ltb}
use Rattle.std.specs.Bool.{Decides}
use Rattle.std.proofs.Math.Bool.{and-true}
use Rattle.std.proofs.lemmas.List.{reverse-append, map-append}
use Rattle.std.proofs.lemmas.Str.Parse.{numerals_by_value, tells_all_ascii_digits}
use Rattle.std.specs.Int.{w64}
use Rattle.std.specs.Int.RustNames.{FitsSigned}
use Rattle.std.specs.Prelude.{ℤ, pos, negsuc, neg_ℤ, int_le, int_lt, option_and_then}
use Rattle.std.specs.Result.{OkIff, result_unwrap_or}
use Rattle.std.specs.Str.{all_ascii_digits, bytes_eq}
use Rattle.std.specs.Str.Parse.{IsNumeral, ParsesSigned, ParsesUnsigned, digits_value, without_leading_plus, without_leading_sign, signed_digits_value}
use Rattle.html_render_dom_nodes.specs.Content.{Property, property_of}
use Rattle.html_render_dom_nodes.specs.declared.names.Attribute.{Attribute}
use Rattle.html_render_dom.specs.Attributes.{first_value}
use Rattle.html_render_tree_convert.specs.Conversion.{number_of}
use Rattle.html_render_tree_convert.specs.Tables.{numeral_of, size_of, size_or_one}

-- whether an `i64` can be this number
abbrev fits_i64 : ℤ → Bool
fits_i64 z = int_le (neg_ℤ (pos (2 ^ 63))) z && int_lt z (pos (2 ^ 63))

fits : (z : ℤ) → fits_i64 z ≡ true → FitsSigned w64 z
fits (pos n) h = record { sfits = ltb-true n (2 ^ 63) h }
fits (negsuc n) h = record { sfits = ltb-true n (2 ^ 63) (leb-suc-suc n (2 ^ 63 - 1) ∙ sym (and-true _) ∙ h) }

fits-test : (z : ℤ) → FitsSigned w64 z → fits_i64 z ≡ true
fits-test (pos n) h = lt-ltb n (2 ^ 63) h.sfits
fits-test (negsuc n) h = and-true _ ∙ sym (leb-suc-suc n (2 ^ 63 - 1)) ∙ lt-ltb n (2 ^ 63) h.sfits

module _ {N : Type 0} (digits : List ℕ) (number : N) (fits : Bool) (Fits : Type 0) (told : Decides fits Fits) where
  abbrev test : Bool
  test = nat_lt 0 (length digits) && all_ascii_digits digits && fits

  test-tells : Decides test (IsNumeral 10 digits × Fits)
  test-tells =
      let own = numerals_by_value (λ ds. all_ascii_digits ds ≡ true) tells_all_ascii_digits in (
        λ h. let parts = and_parts (nat_lt 0 (length digits) && all_ascii_digits digits) fits h in
            let first = and_parts (nat_lt 0 (length digits)) (all_ascii_digits digits) parts.0 in
            ((ltb-true 0 (length digits) first.0, own.to digits first.1), told.0 parts.1),
        λ h. and_from (nat_lt 0 (length digits) && all_ascii_digits digits) fits
            (and_from (nat_lt 0 (length digits)) (all_ascii_digits digits) (lt-ltb 0 (length digits) h.0.0) (own.from digits h.0.1)) (told.1 h.1),
      )

  parsed : {E : Type 0} (r : Result N E) (d : N) → OkIff r (IsNumeral 10 digits × Fits) number →
      result_unwrap_or r d ≡ unwrap_or (numeral_of digits number fits) d
  parsed (Ok x) d h = h.1 ∙ ap (λ b. unwrap_or (if b then Some number else None) d) (sym (test-tells.1 h.0))
  parsed (Err e) d h = elim (cases_Bool test) [
    | inl t ↦ absurd (h (test-tells.0 t))
    | inr f ↦ ap (λ b. unwrap_or (if b then Some number else None) d) (sym f)
  ]

-- what `parse` reads as a number
pub parse-number_of : {E : Type 0} (written : List ℕ) (r : Result ℤ E) (d : ℤ) → ParsesSigned w64 10 written r →
    result_unwrap_or r d ≡ unwrap_or (number_of written) d
parse-number_of written r d h =
    let number = signed_digits_value 10 written in
    parsed (without_leading_sign written) number (fits_i64 number) (FitsSigned w64 number) (fits number, fits-test number) r d h

-- and as a size
pub parse-size_of : {E : Type 0} (written : List ℕ) (r : Result ℕ E) (d : ℕ) → ParsesUnsigned 64 10 written r →
    result_unwrap_or r d ≡ unwrap_or (size_of written) d
parse-size_of written r d h =
    let digits = without_leading_plus written in
    let size = digits_value 10 digits in
    parsed digits size (nat_lt size (2 ^ 64)) (size < 2 ^ 64) (Decides-ltb size (2 ^ 64)) r d h

-- the first of a mapped list that passes
pub find-map : {X Y : Type 0} (f : X → Y) (test : Y → Bool) (xs : List X) → find test (map f xs) ≡ option_map f (find (λ x. test (f x)) xs)
find-map f test [] = refl
find-map f test (x ∷ xs) = elim (cases_Bool (test (f x))) [ inl e ↦ rw e refl | inr e ↦ rw e (find-map f test xs) ]

pub ruleset starts = (find-map)

map-reverse : {X Y : Type 0} (f : X → Y) (xs : List X) → map f (reverse xs) ≡ reverse (map f xs)
map-reverse f [] = refl
map-reverse f (x ∷ xs) =
    ap (map f) (reverse-append (x ∷ []) xs)
    ∙ map-append f (reverse xs) (x ∷ [])
    ∙ ap (λ ys. ys ++ f x ∷ []) (map-reverse f xs)
    ∙ sym (reverse-append (f x ∷ []) (map f xs))

-- the size that an attribute says
abbrev pub size_said : Option Attribute → ℕ
size_said found = unwrap_or (option_and_then size_of (option_map (λ (p : Property). p.value) (option_map property_of found))) 1

-- the last attribute of a name says it
pub size-last : (attributes : List Attribute) (name : List ℕ) → size_or_one name (map property_of attributes)
    ≡ size_said (find (λ a. bytes_eq a.name.local name) (reverse attributes))
size-last attributes name =
    ap (λ ps. unwrap_or (option_and_then size_of (first_value name ps)) 1) (sym (map-reverse property_of attributes))
    ∙ ap (λ o. unwrap_or (option_and_then size_of (option_map (λ (p : Property). p.value) o)) 1)
    (find-map property_of (λ p. bytes_eq p.name.local name) (reverse attributes))
