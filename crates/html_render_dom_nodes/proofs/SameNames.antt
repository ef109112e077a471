-- Names that are compared by their lengths and first bytes.
use Rattle.std.proofs.Common.{◌≡◌, ℕ, ◌≤◌, zero, suc, Bool, true, false, ◌&&◌, List, [], ◌∷◌, length, nat_eq, refl, ap, ◌∙◌, arith}
use Rattle.std.proofs.lemmas.Bool.{eqb-true}
use Rattle.std.specs.List.{slice_index_or}
use Rattle.std.specs.Str.{bytes_eq}

and-false : (a : Bool) → a && false ≡ false
and-false true = refl
and-false false = refl

pub byte_differs : (n : ℕ) (a b : List ℕ) → nat_eq (slice_index_or a n 0) (slice_index_or b n 0) ≡ false → bytes_eq a b ≡ false
byte_differs n [] [] e = e
byte_differs n [] (y ∷ ys) e = refl
byte_differs n (x ∷ xs) [] e = refl
byte_differs zero (x ∷ xs) (y ∷ ys) e = ap (λ r. r && bytes_eq xs ys) e
byte_differs (suc n) (x ∷ xs) (y ∷ ys) e = ap (λ r. nat_eq x y && r) (byte_differs n xs ys e) ∙ and-false (nat_eq x y)

pub short_same : (a b : List ℕ) → length a ≡ length b → length a ≤ 2 → nat_eq (slice_index_or a 0 0) (slice_index_or b 0 0) ≡ true →
    nat_eq (slice_index_or a 1 0) (slice_index_or b 1 0) ≡ true → bytes_eq a b ≡ true
short_same [] [] n few e f = refl
short_same [] (y ∷ ys) n few e f = absurd (omega (arith, n))
short_same (x ∷ xs) [] n few e f = absurd (omega (arith, n))
short_same (x ∷ []) (y ∷ []) n few e f = ap (λ r. r && true) e
short_same (x ∷ []) (y ∷ z ∷ zs) n few e f = absurd (omega (arith, n))
short_same (x ∷ w ∷ ws) (y ∷ []) n few e f = absurd (omega (arith, n))
short_same (x ∷ w ∷ []) (y ∷ z ∷ []) n few e f = ap (λ r. r && (nat_eq w z && true)) e ∙ ap (λ r. r && true) f
short_same (x ∷ w ∷ []) (y ∷ z ∷ t ∷ ts) n few e f = absurd (omega (arith, n))
short_same (x ∷ w ∷ v ∷ vs) (y ∷ z ∷ zs) n few e f = absurd (omega (arith, few))

pub ruleset compared = (byte_differs, short_same)
