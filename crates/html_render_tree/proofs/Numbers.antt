-- Words that the kit reads as numbers of 64 bits are those that the definition takes as widths.
use Rattle.std.proofs.Common.{◌≡◌, ℕ, ◌^◌, ◌<◌, true, List, Ok, Err, length, refl, ap}
use Rattle.std.specs.Option.{ok_or}
use Rattle.std.specs.Str.{all_ascii_digits}
use Rattle.std.specs.Str.Parse.{digits_value, without_leading_plus, IsNumeral}
use Rattle.std.proofs.lemmas.Bool.{lt-ltb, ltb-true, and_from, and_parts, cond-true, cond-false, false_from_ne_true}
use Rattle.std.proofs.lemmas.Str.Parse.{IsNumeralModel, numerals_by_value, tells_all_ascii_digits}
use Rattle.html_render_tree.specs.declared.htree.faults.Fault.TheVariants.{Arguments}
use Rattle.html_render_tree.specs.Words.{is_number, width_named}

-- digits as a test and as a fact
own : IsNumeralModel (λ ds. all_ascii_digits ds ≡ true) (digits_value 10)
own = numerals_by_value (λ ds. all_ascii_digits ds ≡ true) tells_all_ascii_digits

number_tested : (ds : List ℕ) → IsNumeral 10 ds × (digits_value 10 ds < 2 ^ 64) → is_number ds ≡ true
number_tested ds (numeral, fits) =
    and_from _ _ (and_from _ _ (lt-ltb 0 (length ds) numeral.0) (own.from ds numeral.1)) (lt-ltb (digits_value 10 ds) (2 ^ 64) fits)

number_there : (ds : List ℕ) → is_number ds ≡ true → IsNumeral 10 ds × (digits_value 10 ds < 2 ^ 64)
number_there ds e =
    let (front, fits) = and_parts _ _ e in
    let (some, digits) = and_parts _ _ front in
    ((ltb-true 0 (length ds) some, own.to ds digits), ltb-true (digits_value 10 ds) (2 ^ 64) fits)

pub width-read : (word : List ℕ) (width : ℕ) → let ds = without_leading_plus word in
    (IsNumeral 10 ds × (digits_value 10 ds < 2 ^ 64)) × (width ≡ digits_value 10 ds) → Ok width ≡ ok_or (width_named word) Arguments
width-read word width (is, same) = rw (cond-true (is_number (without_leading_plus word)) _ _ (number_tested _ is)) (ap Ok same)

pub width-refused : (word : List ℕ) → let ds = without_leading_plus word in
    ¬ (IsNumeral 10 ds × (digits_value 10 ds < 2 ^ 64)) → Err Arguments ≡ ok_or (width_named word) Arguments
width-refused word bad = rw (cond-false (is_number (without_leading_plus word)) _ _ (false_from_ne_true _ (λ t. bad (number_there _ t)))) refl
