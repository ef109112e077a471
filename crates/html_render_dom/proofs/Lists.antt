-- Members of lists of children after removals and insertions.
use Rattle.std.proofs.Common.{◌≡◌, ◌≢◌, ◌==◌, ℕ, true, false, not, nat_eq, List, [], ◌∷◌, ◌++◌, slice_index_or, Contains, inl, inr, refl, sym, ◌∙◌, subst}
use Rattle.std.specs.List.{IsDistinct}
use Rattle.std.proofs.lemmas.Bool.{false≢true}
use Rattle.std.proofs.lemmas.Bool.Decides.{eqb_tells}
use Rattle.std.proofs.lemmas.List.Elements.{Contains-get_or, All-contains, All-contains_itself, All-filter, All-from_recursion, filter_passes, recursion_from_All, Contains-append_cases}
use Rattle.std.proofs.lemmas.List.Kept.{AllPairs-filter}
use Rattle.std.proofs.lemmas.Map.Keys.{IsDistinct-head, IsDistinct-tail, IsDistinct-cons, IsDistinct-from_apart, apart_from_distinct}
use Rattle.std.proofs.lemmas.List.Sorted.{IsPermutation-cons, IsPermutation-middle, IsPermutation-refl, IsPermutation-trans}
use Rattle.std.specs.List.Sorted.{IsPermutation}
use Rattle.html_render_dom.specs.laws.Members.{All-unfiltered, Contains-nil, Contains-head, Contains-tail, Contains-cons_cases}
use Rattle.html_render_dom_nodes.specs.Moves.{without, before}

pub Contains-from_without : (h : ℕ) (xs : List ℕ) (x : ℕ) → Contains (without h xs) x → Contains xs x × (x ≢ h)
Contains-from_without h xs x m =
    let passed : not (x == h) ≡ true = All-contains (λ y. not (y == h) ≡ true) (without h xs) x (filter_passes (λ y. not (y == h)) xs) m in (
      All-contains (Contains xs) (without h xs) x (All-filter (λ y. not (y == h)) (Contains xs) xs (All-contains_itself xs)) m,
      elim (eqb_tells x h) [ inl e ↦ absurd (cc) | inr d ↦ d.1 ],
    )

pub Contains-without : (h : ℕ) (xs : List ℕ) (x : ℕ) → Contains xs x → x ≢ h → Contains (without h xs) x
Contains-without h xs x m other =
    All-contains (λ y. not (y == h) ≡ true → Contains (without h xs) y) xs x
    (All-unfiltered (λ y. not (y == h)) (Contains (without h xs)) xs (All-contains_itself (without h xs))) m
    (elim (eqb_tells x h) [ inl e ↦ absurd (other e.1) | inr d ↦ rw d.0 refl ])

pub IsDistinct-without : (h : ℕ) (xs : List ℕ) → IsDistinct nat_eq xs → IsDistinct nat_eq (without h xs)
IsDistinct-without h xs d =
    IsDistinct-from_apart nat_eq (without h xs)
    (AllPairs-filter (λ x y. nat_eq x y ≡ false) (λ y. not (y == h)) xs (λ i j k. apart_from_distinct nat_eq xs i j k d))

-- a list with a child before one of its members has the list's members and the child, in another order
pub IsPermutation-before : (s c : ℕ) (xs : List ℕ) → Contains xs s → IsPermutation (c ∷ xs) (before s c xs)
IsPermutation-before s c [] m = absurd (Contains-nil s m)
IsPermutation-before s c (x ∷ xs) m =
    elim (eqb_tells x s) [
      | inl e ↦ rw e.0 (IsPermutation-refl (c ∷ x ∷ xs))
      | inr d ↦ rw d.0 (IsPermutation-trans (c ∷ x ∷ xs) (x ∷ c ∷ xs) (x ∷ before s c xs) (IsPermutation-middle (c ∷ []) x xs)
          (IsPermutation-cons x (c ∷ xs) (before s c xs)
          (IsPermutation-before s c xs (elim (Contains-cons_cases x xs s m) [ inl q ↦ absurd (d.1 q) | inr t ↦ t ]))))
    ]

-- distinct numbers stay distinct after another number; the first of distinct numbers differs from the others
pub IsDistinct-fresh : (x : ℕ) (xs : List ℕ) → IsDistinct nat_eq xs → (Contains xs x → ⊥) → IsDistinct nat_eq (x ∷ xs)
IsDistinct-fresh x xs d absent =
    IsDistinct-cons nat_eq x xs (recursion_from_All (λ y. nat_eq x y ≡ false) xs (λ k y lt. elim (eqb_tells x (slice_index_or xs k y)) [
      | inl e ↦ absurd (absent (subst (Contains xs) (sym e.1) (Contains-get_or xs k y lt)))
      | inr n ↦ n.0
    ])) d

pub first_apart : (x : ℕ) (xs : List ℕ) → IsDistinct nat_eq (x ∷ xs) → (y : ℕ) → Contains xs y → y ≢ x
first_apart x xs d y m e =
    let differs : nat_eq x (slice_index_or xs m.0 y) ≡ false =
    All-from_recursion (λ y. nat_eq x y ≡ false) xs (IsDistinct-head nat_eq x xs d) m.0 y m.1 in
    elim (eqb_tells x (slice_index_or xs m.0 y)) [
      | inl s ↦ absurd (false≢true (sym differs ∙ s.0))
      | inr n ↦ absurd (n.1 (sym e ∙ sym m.2))
    ]

pub IsDistinct-append : (xs ys : List ℕ) → IsDistinct nat_eq xs → IsDistinct nat_eq ys → ((x : ℕ) → Contains xs x → Contains ys x → ⊥) →
    IsDistinct nat_eq (xs ++ ys)
IsDistinct-append [] ys d e apart = e
IsDistinct-append (x ∷ xs) ys d e apart =
    IsDistinct-fresh x (xs ++ ys) (IsDistinct-append xs ys (IsDistinct-tail nat_eq x xs d) e (λ y m n. apart y (Contains-tail x xs y m) n))
    (λ m. elim (Contains-append_cases xs ys x m) [ inl o ↦ first_apart x xs d x o refl | inr o ↦ apart x (Contains-head x xs) o ])
