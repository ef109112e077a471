-- Lists of children after removals and insertions.
use Rattle.std.proofs.Common.{◌≡◌, ◌==◌, ℕ, zero, suc, ◌+◌, ◌<◌, ◌≤◌, false, cond, ltb, List, [], ◌∷◌}
use Rattle.std.proofs.Common.{length, slice_get, slice_index_or, Option, Some, None, Result, Ok, Err, IsOk, OnOk, inl, inr, refl, ap, ◌∙◌, arith}
use Rattle.std.specs.List.{insert, remove, position_or_len}
use Rattle.std.proofs.lemmas.Bool.{false≢true}
use Rattle.std.proofs.lemmas.Bool.Decides.{eqb_tells, nat_tests}
use Rattle.html_render_dom_nodes.specs.Moves.{without, before, previous}

-- the postcondition of a call that can't be refused
pub ok_then : {T E : Type 0} (r : Result T E) (P : Type 0) → IsOk r → OnOk r P → P
ok_then (Ok x) P h e = e
ok_then (Err y) P h e = absurd (false≢true h)

-- the place of a node in a list, or the list's length
abbrev pub place_of : ℕ → List ℕ → ℕ
place_of s xs = position_or_len (λ x. x == s) xs

-- the place of a node, from the result of `position`
pub place_found : (r : Option ℕ) (n len i : ℕ) → r ≡ cond (ltb n len) (Some n) None → r ≡ Some i → (i ≡ n) × (n < len)
place_found r n len i e f = grind (arith, nat_tests)

pub place_absent : (r : Option ℕ) (n len : ℕ) → r ≡ cond (ltb n len) (Some n) None → r ≡ None → len ≤ n
place_absent r n len e f = grind (arith, nat_tests)

pub insert-before : (s c : ℕ) (xs : List ℕ) → place_of s xs < length xs → insert xs (place_of s xs) c ≡ before s c xs
insert-before s c [] lt = absurd (omega arith)
insert-before s c (x ∷ xs) lt = elim (eqb_tells x s) [
  | inl e ↦ rw e.0 refl
  | inr d ↦
      let lt' : 1 + place_of s xs < length (x ∷ xs) = rw d.0 at lt in
      let next : 1 + place_of s xs ≡ suc (place_of s xs) = omega arith in
      rw d.0 (ap (λ i. insert (x ∷ xs) i c) next ∙ ap (λ ys. x ∷ ys) (insert-before s c xs (omega arith)))
]

pub before-absent : (s c : ℕ) (xs : List ℕ) → length xs ≤ place_of s xs → before s c xs ≡ xs
before-absent s c [] le = refl
before-absent s c (x ∷ xs) le = let more = before-absent s c xs in grind (arith, nat_tests)

kept : (s x : ℕ) (xs : List ℕ) → (x == s) ≡ false → without s (x ∷ xs) ≡ x ∷ without s xs
kept s x xs d = rw d refl

pub without-removed : (s : ℕ) (xs : List ℕ) → place_of s xs < length xs → without s (remove xs (place_of s xs)) ≡ without s xs
without-removed s [] lt = absurd (omega arith)
without-removed s (x ∷ xs) lt = elim (eqb_tells x s) [
  | inl e ↦ rw e.0 refl
  | inr d ↦
      let lt' : 1 + place_of s xs < length (x ∷ xs) = rw d.0 at lt in
      let next : 1 + place_of s xs ≡ suc (place_of s xs) = omega arith in
      rw d.0 (ap (λ i. without s (remove (x ∷ xs) i)) next ∙ kept s x (remove xs (place_of s xs)) d.0
      ∙ ap (λ ys. x ∷ ys) (without-removed s xs (omega arith)))
]

pub without-absent : (s : ℕ) (xs : List ℕ) → length xs ≤ place_of s xs → without s xs ≡ xs
without-absent s [] le = refl
without-absent s (x ∷ xs) le = let more = without-absent s xs in grind (arith, nat_tests)

pub previous-absent : (s : ℕ) (last : Option ℕ) (xs : List ℕ) → length xs ≤ place_of s xs → previous s last xs ≡ None
previous-absent s last [] le = refl
previous-absent s last (x ∷ xs) le = let more = previous-absent s (Some x) xs in grind (arith, nat_tests)

-- the member before the first is the given one
pub previous-first : (s : ℕ) (last : Option ℕ) (xs : List ℕ) → place_of s xs < length xs → place_of s xs ≡ 0 → previous s last xs ≡ last
previous-first s last [] lt e = absurd (omega arith)
previous-first s last (x ∷ xs) lt e = grind (arith, nat_tests)

pub previous-later : (s : ℕ) (last : Option ℕ) (xs : List ℕ) (k : ℕ) → place_of s xs < length xs → place_of s xs ≡ suc k →
    previous s last xs ≡ slice_get xs k
previous-later s last [] k lt e = absurd (omega arith)
previous-later s last (x ∷ xs) zero lt e = let first = previous-first s (Some x) xs in grind (arith, nat_tests)
previous-later s last (x ∷ xs) (suc k) lt e = let more = previous-later s (Some x) xs k in grind (arith, nat_tests)

pub slice_get-at : (xs : List ℕ) (k d : ℕ) → k < length xs → slice_get xs k ≡ Some (slice_index_or xs k d)
slice_get-at [] k d lt = absurd (omega arith)
slice_get-at (x ∷ xs) zero d lt = refl
slice_get-at (x ∷ xs) (suc k) d lt = slice_get-at xs k d (omega arith)
