-- Members of lists.
use Rattle.std.proofs.Common.{◌≡◌, ℕ, Bool, true, false, filter, List, [], ◌∷◌, ◌⊎◌, inl, inr, refl, sym, ◌∙◌, subst, arith, eqb, Contains}
use Rattle.std.specs.List.{All, flat_map, list_any}
use Rattle.std.proofs.lemmas.Bool.{cases_Bool, eqb-true, false≢true}
use Rattle.std.proofs.lemmas.Cmp.{nat_eq_equiv}
use Rattle.std.proofs.lemmas.Map.Views as Views
use Rattle.std.proofs.lemmas.List.Elements.{All-nil, All-cons, All-head, All-tail, Contains-append_left, Contains-append_right, Contains-append_cases, Contains-push_cases}

pub Contains-nil : {X : Type 0} (x : X) → Contains [] x → ⊥
Contains-nil x h = omega (arith, h.1)

pub Contains-head : {X : Type 0} (x : X) (xs : List X) → Contains (x ∷ xs) x
Contains-head x xs = (0, omega arith, refl)

pub Contains-tail : {X : Type 0} (x : X) (xs : List X) (y : X) → Contains xs y → Contains (x ∷ xs) y
Contains-tail x xs y h = Contains-append_right (x ∷ []) xs y h

pub Contains-cons_cases : {X : Type 0} (x : X) (xs : List X) (y : X) → Contains (x ∷ xs) y → (x ≡ y) ⊎ Contains xs y
Contains-cons_cases x xs y h =
    elim (Contains-append_cases (x ∷ []) xs y h) [
      | inl a ↦ elim (Contains-push_cases [] x y a) [ inl b ↦ absurd (Contains-nil y b) | inr e ↦ inl e ]
      | inr b ↦ inr b
    ]

-- each member of a list of one has the properties of that one
pub Contains-single : {X : Type 0} (P : X → Type 0) (x : X) → P x → (y : X) → Contains (x ∷ []) y → P y
Contains-single P x p y h = elim (Contains-cons_cases x [] y h) [ inl e ↦ subst P e p | inr n ↦ absurd (Contains-nil y n) ]

pub Contains-flat_map : {X Y : Type 0} (f : X → List Y) (xs : List X) (x : X) (y : Y) → Contains xs x → Contains (f x) y → Contains (flat_map f xs) y
Contains-flat_map f [] x y h within = absurd (Contains-nil x h)
Contains-flat_map f (z ∷ xs) x y h within = elim (Contains-cons_cases z xs x h) [
  | inl e ↦ Contains-append_left (f z) (flat_map f xs) y (rw e within)
  | inr t ↦ Contains-append_right (f z) (flat_map f xs) y (Contains-flat_map f xs x y t within)
]

-- what holds of each element that a filter keeps
pub All-unfiltered : {X : Type 0} (p : X → Bool) (P : X → Type 0) (xs : List X) → All P (filter p xs) → All (λ x. p x ≡ true → P x) xs
All-unfiltered p P [] all = All-nil (λ y. p y ≡ true → P y)
All-unfiltered p P (x ∷ xs) all = elim (cases_Bool (p x)) [
  | inl e ↦ (
      let kept = rw e at all in
      All-cons (λ y. p y ≡ true → P y) x xs (λ t. All-head P x (filter p xs) kept) (All-unfiltered p P xs (All-tail P x (filter p xs) kept))
      )
  | inr e ↦ All-cons (λ y. p y ≡ true → P y) x xs (λ t. absurd (false≢true (sym e ∙ t))) (All-unfiltered p P xs (rw e at all))
]

-- `list_any` finds a number exactly if the number is in the list
pub Contains-from_any : (xs : List ℕ) (y : ℕ) → list_any (eqb y) xs ≡ true → Contains xs y
Contains-from_any xs y e = Views.Contains-from_any {eq = eqb} eqb-true y xs e

pub any-from_absent : (xs : List ℕ) (y : ℕ) → (Contains xs y → ⊥) → list_any (eqb y) xs ≡ false
any-from_absent xs y absent = elim (cases_Bool (list_any (eqb y) xs)) [ inl e ↦ absurd (absent (Contains-from_any xs y e)) | inr e ↦ e ]

pub any-from_Contains : (xs : List ℕ) (y : ℕ) → Contains xs y → list_any (eqb y) xs ≡ true
any-from_Contains xs y h = Views.list_any-from_Contains {eq = eqb} nat_eq_equiv y xs h
