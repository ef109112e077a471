-- A vector as a stack: its last item, which is the innermost, and those before it.
use Rattle.std.proofs.Common.{◌≡◌, ℕ, suc, ◌+◌, ◌≤◌, List, [], ◌∷◌, ◌++◌, All, Option, Some, None, length, get_or, set, take, drop, reverse, refl, sym, ap, subst, ◌∙◌, append-nil, arith}
use Rattle.std.specs.Prelude.{option_to_list}
use Rattle.std.proofs.lemmas.List.Elements.{All-tail}
use Rattle.std.proofs.lemmas.List.{reverse-append, length-drop, length-take-le}
use Rattle.std.proofs.Math.Seq.{split_at, set_at}

module _ {X : Type 0} where
  pub last-split : (xs : List X) (n : ℕ) (x : X) → n + 1 ≡ length xs → x ≡ get_or xs n x → xs ≡ take n xs ++ x ∷ []
  last-split xs n x h is =
      split_at xs n x (omega (arith, h)) ∙ ap (λ y. take n xs ++ y ∷ drop (suc n) xs) (sym is)
      ∙ ap (λ l. take n xs ++ x ∷ l) (none (drop (suc n) xs) (omega (arith, h, length-drop (suc n) xs)))
    where
      none : (l : List X) → length l ≤ 0 → l ≡ []
      none [] h = refl
      none (y ∷ ys) h = absurd (omega (arith, h))

  pub last-set : (xs : List X) (n : ℕ) (x y : X) → n + 1 ≡ length xs → x ≡ get_or xs n x → set xs n y ≡ take n xs ++ y ∷ []
  last-set xs n x y h is =
      let many : length (take n xs) ≡ n = length-take-le n xs (omega (arith, h)) in
      ap (λ l. set l n y) (last-split xs n x h is) ∙ set_at (take n xs) x [] y n many

  -- from the innermost
  pub innermost-first : (xs : List X) (n : ℕ) (x : X) → n + 1 ≡ length xs → x ≡ get_or xs n x → reverse xs ≡ x ∷ reverse (take n xs)
  innermost-first xs n x h is = ap reverse (last-split xs n x h is) ∙ reverse-append (take n xs) (x ∷ [])

  pub innermost-set : (xs : List X) (n : ℕ) (x y : X) → n + 1 ≡ length xs → x ≡ get_or xs n x → reverse (set xs n y) ≡ y ∷ reverse (take n xs)
  innermost-set xs n x y h is = ap reverse (last-set xs n x y h is) ∙ reverse-append (take n xs) (y ∷ [])

  -- what holds of all, as the innermost is taken
  pub all-popped : (P : X → Type 0) (all new : List X) (x : Option X) → all ≡ new ++ option_to_list x → All P (reverse all) → All P (reverse new)
  all-popped P all new None e h = subst (λ l. All P (reverse l)) (e ∙ append-nil new) h
  all-popped P all new (Some y) e h = All-tail P y (reverse new) (subst (All P) (ap reverse e ∙ reverse-append new (y ∷ [])) h)
