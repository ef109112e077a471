-- The edges, sorted and without duplicates, and their numbers.
use Rattle.std.proofs.Common.{◌≡◌, ℕ, ◌+◌, ◌-◌, ◌<◌, ◌≤◌, true, false, cond, List, [], ◌∷◌, ◌++◌, length, get_or, take, All, Contains, nat_lt, refl, sym, subst, ap, append_assoc}
use Rattle.std.proofs.Common.{arith, inl, inr, ◌⊎◌, suc, zero, ◌∙◌}
use Rattle.std.specs.List.{AllPairs, AllWithin}
use Rattle.std.specs.List.Sorted.{IsNonDecreasingBy, IsStrictlyIncreasing}
use Rattle.std.proofs.lemmas.Bool.{cases_lt}
use Rattle.std.proofs.lemmas.List.{get_or_default, take_more}
use Rattle.std.proofs.lemmas.List.Elements.{All-nil, All-cons, All-head, All-tail, All-weaker, All-contains, Contains-append_cases, Contains-append_left}
use Rattle.std.proofs.lemmas.List.Elements.{Contains-append_right}
use Rattle.std.proofs.lemmas.List.Kept.{AllPairs-cons, AllPairs-from_increasing}
use Rattle.std.proofs.lemmas.List.Sums.{sum_by-cons, count_by-le-length}
use Rattle.std.proofs.lemmas.Bool.Decides.{nat_tests}
use Rattle.html_render_parts.specs.Placement.{rising, rising_with}
use Rattle.html_render_parts.specs.Grid.{rank, IsNumbering, IsLeastNumbering}
use Rattle.html_render_parts.proofs.RisingEnds.{All-rising_with, rising-step}

abbrev Rise : List ℕ → Type 0
Rise xs = AllPairs (λ x y. x < y) xs

Rise-head : (x : ℕ) (xs : List ℕ) → Rise (x ∷ xs) → All (λ y. x < y) xs
Rise-head x xs h = λ k d inside. h 0 (suc k) d (omega arith) (omega arith)

Rise-tail : (x : ℕ) (xs : List ℕ) → Rise (x ∷ xs) → Rise xs
Rise-tail x xs h = λ i j d less inside. h (suc i) (suc j) d (omega arith) (omega arith)

pub Contains-here : {X : Type 0} (x : X) (xs : List X) → Contains (x ∷ xs) x
Contains-here x xs = (0, omega arith, refl)

pub Contains-there : {X : Type 0} (x n : X) (xs : List X) → Contains xs n → Contains (x ∷ xs) n
Contains-there x n xs h = (suc h.0, let inside = h.1 in omega arith, h.2)

pub Contains-nil : {X : Type 0} (n : X) → Contains [] n → ⊥
Contains-nil n h = let inside = h.1 in omega arith

pub Contains-cons : {X : Type 0} (x n : X) (xs : List X) → Contains (x ∷ xs) n → (x ≡ n) ⊎ Contains xs n
Contains-cons {X} x n xs h = by h.0 h.1 h.2
  where
    by : (k : ℕ) → k < length (x ∷ xs) → get_or (x ∷ xs) k n ≡ n → (x ≡ n) ⊎ Contains xs n
    by zero inside e = inl e
    by (suc k) inside e = inr (k, omega arith, e)

-- ---- the numbers of a list in rising order

Rise-with : (n : ℕ) (ms : List ℕ) → Rise ms → Rise (rising_with n ms)
Rise-with n [] h = AllPairs-cons (λ x y. x < y) n [] (All-nil (λ y. n < y)) h
Rise-with n (m ∷ ms) h = rising-step Rise n m ms
    (λ less. AllPairs-cons (λ x y. x < y) n (m ∷ ms)
    (All-cons (λ y. n < y) m ms less (All-weaker (λ y. m < y) (λ y. n < y) (λ y more. omega arith) ms (Rise-head m ms h))) h)
    (λ less. AllPairs-cons (λ x y. x < y) m (rising_with n ms) (All-rising_with (λ y. m < y) n ms less (Rise-head m ms h))
    (Rise-with n ms (Rise-tail m ms h)))
    (λ e. h)

Rise-rising : (ns : List ℕ) → Rise (rising ns)
Rise-rising [] = λ i j d less inside. absurd (omega arith)
Rise-rising (n ∷ ns) = Rise-with n (rising ns) (Rise-rising ns)

Contains-with : (n : ℕ) (ms : List ℕ) → Contains (rising_with n ms) n
Contains-with n [] = Contains-here n []
Contains-with n (m ∷ ms) = rising-step (λ l. Contains l n) n m ms (λ less. Contains-here n (m ∷ ms))
    (λ less. Contains-there m n (rising_with n ms) (Contains-with n ms)) (λ e. subst (Contains (m ∷ ms)) e (Contains-here m ms))

Contains-with_more : (n k : ℕ) (ms : List ℕ) → Contains ms k → Contains (rising_with n ms) k
Contains-with_more n k [] h = absurd (Contains-nil k h)
Contains-with_more n k (m ∷ ms) h = rising-step (λ l. Contains l k) n m ms (λ less. Contains-there n k (m ∷ ms) h)
    (λ less. elim (Contains-cons m k ms h) [
      | inl e ↦ subst (Contains (m ∷ rising_with n ms)) e (Contains-here m (rising_with n ms))
      | inr g ↦ Contains-there m k (rising_with n ms) (Contains-with_more n k ms g)
    ])
    (λ e. h)

Contains-from_with : (n k : ℕ) (ms : List ℕ) → Contains (rising_with n ms) k → (n ≡ k) ⊎ Contains ms k
Contains-from_with n k [] = Contains-cons n k []
Contains-from_with n k (m ∷ ms) = rising-step (λ l. Contains l k → (n ≡ k) ⊎ Contains (m ∷ ms) k) n m ms (λ less. Contains-cons n k (m ∷ ms))
    (λ less h. elim (Contains-cons m k (rising_with n ms) h) [
      | inl e ↦ inr (subst (Contains (m ∷ ms)) e (Contains-here m ms))
      | inr g ↦ elim (Contains-from_with n k ms g) [ inl e ↦ inl e | inr f ↦ inr (Contains-there m k ms f) ]
    ])
    (λ e h. inr h)

pub Contains-rising : (k : ℕ) (ns : List ℕ) → Contains ns k → Contains (rising ns) k
Contains-rising k [] h = h
Contains-rising k (n ∷ ns) h = elim (Contains-cons n k ns h) [
  | inl e ↦ subst (λ x. Contains (rising_with n (rising ns)) x) e (Contains-with n (rising ns))
  | inr g ↦ Contains-with_more n k (rising ns) (Contains-rising k ns g)
]

pub Contains-from_rising : (k : ℕ) (ns : List ℕ) → Contains (rising ns) k → Contains ns k
Contains-from_rising k [] h = h
Contains-from_rising k (n ∷ ns) h = elim (Contains-from_with n k (rising ns) h) [
  | inl e ↦ subst (λ x. Contains (n ∷ ns) x) e (Contains-here n ns)
  | inr g ↦ Contains-there n k ns (Contains-from_rising k ns g)
]

-- ---- rising lists with equal sets of elements are equal

same-rise : (xs ys : List ℕ) → Rise xs → Rise ys → ((n : ℕ) → Contains xs n → Contains ys n) → ((n : ℕ) → Contains ys n → Contains xs n) → xs ≡ ys
same-rise [] [] p q f g = refl
same-rise [] (y ∷ ys) p q f g = absurd (Contains-nil y (g y (Contains-here y ys)))
same-rise (x ∷ xs) [] p q f g = absurd (Contains-nil x (f x (Contains-here x xs)))
same-rise (x ∷ xs) (y ∷ ys) p q f g =
    let e : x ≡ y = elim (Contains-cons y x ys (f x (Contains-here x xs))) [
      | inl a ↦ sym a
      | inr a ↦ elim (Contains-cons x y xs (g y (Contains-here y ys))) [
        | inl b ↦ b
        | inr b ↦
            let less : y < x = All-contains (λ n. y < n) ys x (Rise-head y ys q) a in
            let more : x < y = All-contains (λ n. x < n) xs y (Rise-head x xs p) b in
            absurd (omega arith)
      ]
    ] in
    let rest : xs ≡ ys = same-rise xs ys (Rise-tail x xs p) (Rise-tail y ys q)
    (λ n h. elim (Contains-cons y n ys (f n (Contains-there x n xs h))) [
      | inl a ↦ let less : x < n = All-contains (λ m. x < m) xs n (Rise-head x xs p) h in absurd (omega arith)
      | inr a ↦ a
    ])
    (λ n h. elim (Contains-cons x n xs (g n (Contains-there y n ys h))) [
      | inl a ↦ let less : y < n = All-contains (λ m. y < m) ys n (Rise-head y ys q) h in absurd (omega arith)
      | inr a ↦ a
    ]) in
    cc

-- a rising list with exactly the numbers of another list is `rising` of that
pub rising-only : (xs ns : List ℕ) → IsStrictlyIncreasing xs → ((n : ℕ) → Contains xs n → Contains ns n) →
    ((n : ℕ) → Contains ns n → Contains xs n) → xs ≡ rising ns
rising-only xs ns h f g =
    same-rise xs (rising ns) (AllPairs-from_increasing xs h) (Rise-rising ns) (λ n a. Contains-rising n ns (f n a))
    (λ n a. g n (Contains-from_rising n ns a))

-- lists with equal sets of numbers have one `rising`
pub rising-same : (ms ns : List ℕ) → ((n : ℕ) → Contains ms n → Contains ns n) → ((n : ℕ) → Contains ns n → Contains ms n) → rising ms ≡ rising ns
rising-same ms ns f g =
    same-rise (rising ms) (rising ns) (Rise-rising ms) (Rise-rising ns)
    (λ n a. Contains-rising n ns (f n (Contains-from_rising n ms a)))
    (λ n a. Contains-rising n ms (g n (Contains-from_rising n ns a)))

pub rising-rising : (ns : List ℕ) → rising (rising ns) ≡ rising ns
rising-rising ns = rising-same (rising ns) ns (λ n a. Contains-from_rising n ns a) (λ n a. Contains-rising n ns a)

-- sorting sorted numbers and others is sorting all
pub rising-more : (ms ns : List ℕ) → rising (rising ms ++ ns) ≡ rising (ms ++ ns)
rising-more ms ns = rising-same (rising ms ++ ns) (ms ++ ns)
    (λ n a. elim (Contains-append_cases (rising ms) ns n a) [
      | inl b ↦ Contains-append_left ms ns n (Contains-from_rising n ms b)
      | inr b ↦ Contains-append_right ms ns n b
    ])
    (λ n a. elim (Contains-append_cases ms ns n a) [
      | inl b ↦ Contains-append_left (rising ms) ns n (Contains-rising n ms b)
      | inr b ↦ Contains-append_right (rising ms) ns n b
    ])

-- adding numbers again that are at the end of the gathered ones changes nothing
pub rising-known : (front ns : List ℕ) → rising (rising (front ++ ns) ++ ns) ≡ rising (front ++ ns)
rising-known front ns =
    rising-more (front ++ ns) ns
    ∙ rising-same ((front ++ ns) ++ ns) (front ++ ns)
    (λ n h. elim (Contains-append_cases (front ++ ns) ns n h) [ inl a ↦ a | inr b ↦ Contains-append_right front ns n b ])
    (λ n h. Contains-append_left (front ++ ns) ns n h)

-- a number that is among the gathered ones changes nothing
pub rising_again : (ns : List ℕ) (n : ℕ) → Contains ns n → rising ns ≡ rising (ns ++ n ∷ [])
rising_again ns n h =
    rising-same ns (ns ++ n ∷ [])
    (λ k a. Contains-append_left ns (n ∷ []) k a)
    (λ k a. elim (Contains-append_cases ns (n ∷ []) k a) [
      | inl b ↦ b
      | inr b ↦ elim (Contains-cons n k [] b) [ inl e ↦ subst (Contains ns) e h | inr f ↦ absurd (Contains-nil k f) ]
    ])

-- adding the next number to equal sets
pub rising_next : (ms gathered front : List ℕ) (i d : ℕ) → rising gathered ≡ rising (front ++ take i ms) → i < length ms →
    rising (gathered ++ get_or ms i d ∷ []) ≡ rising (front ++ take (i + 1) ms)
rising_next ms gathered front i d same inside =
    let n = get_or ms i d in
    sym (rising-more gathered (n ∷ []))
    ∙ ap (λ l. rising (l ++ n ∷ [])) same
    ∙ rising-more (front ++ take i ms) (n ∷ [])
    ∙ ap rising (append_assoc front (take i ms) (n ∷ []) ∙ ap (λ l. front ++ l) (sym (take_more ms i d inside)))

pub IsStrictlyIncreasing-rising : (ns : List ℕ) → IsStrictlyIncreasing (rising ns)
IsStrictlyIncreasing-rising ns = λ k inside. Rise-rising ns k (k + 1) 0 (omega arith) inside

-- ---- ranks

rank-cons : (x : ℕ) (xs : List ℕ) (t : ℕ) → rank (x ∷ xs) t ≡ cond (nat_lt x t) 1 0 + rank xs t
rank-cons x xs t = sum_by-cons (λ e. cond (nat_lt e t) 1 0) x xs

pub rank-mono : (xs : List ℕ) (a b : ℕ) → a ≤ b → rank xs a ≤ rank xs b
rank-mono [] a b le = omega arith
rank-mono (x ∷ xs) a b le = rw (rank-cons x xs a, rank-cons x xs b) (let ih = rank-mono xs a b le in grind (arith, nat_tests))

pub rank-less : (xs : List ℕ) (a b : ℕ) → Contains xs a → a < b → rank xs a < rank xs b
rank-less [] a b h less = absurd (Contains-nil a h)
rank-less (x ∷ xs) a b h less = rw (rank-cons x xs a, rank-cons x xs b) (elim (Contains-cons x a xs h) [
  | inl e ↦ let mono = rank-mono xs a b (omega arith) in grind (arith, nat_tests)
  | inr g ↦ let ih = rank-less xs a b g less in grind (arith, nat_tests)
])

rank-none : (xs : List ℕ) (t : ℕ) → All (λ y. t < y) xs → rank xs t ≡ 0
rank-none [] t h = refl
rank-none (x ∷ xs) t h =
    let here : t < x = All-head (λ y. t < y) x xs h in
    let ih = rank-none xs t (All-tail (λ y. t < y) x xs h) in
    rw (rank-cons x xs t) (grind (arith, nat_tests))

least-from : (xs : List ℕ) (k : ℕ) (number : ℕ → ℕ) → Rise xs → IsNumbering xs number → ((x : ℕ) → Contains xs x → k ≤ number x) →
    (e : ℕ) → Contains xs e → rank xs e + k ≤ number e
least-from [] k number p is low e h = absurd (Contains-nil e h)
least-from (x ∷ xs) k number p is low e h = elim (Contains-cons x e xs h) [
  | inl f ↦
      let none : rank xs x ≡ 0 = rank-none xs x (Rise-head x xs p) in
      let here : k ≤ number x = low x (Contains-here x xs) in
      subst (λ y. rank (x ∷ xs) y + k ≤ number y) f
      (rw (rank-cons x xs x) (grind (arith, nat_tests)))
  | inr g ↦
      let less : x < e = All-contains (λ m. x < m) xs e (Rise-head x xs p) g in
      let ih : rank xs e + (k + 1) ≤ number e = least-from xs (k + 1) number (Rise-tail x xs p)
      (λ a b in_a in_b l. is a b (Contains-there x a xs in_a) (Contains-there x b xs in_b) l)
      (λ y in_y.
      let here : k ≤ number x = low x (Contains-here x xs) in
      let up : number x < number y =
      is x y (Contains-here x xs) (Contains-there x y xs in_y) (All-contains (λ m. x < m) xs y (Rise-head x xs p) in_y) in
      omega arith)
      e g in
      rw (rank-cons x xs e) (grind (arith, nat_tests))
]

pub rank-least : (xs : List ℕ) → IsStrictlyIncreasing xs → IsLeastNumbering xs (rank xs)
rank-least xs h = λ number is e in_e. let t = least-from xs 0 number (AllPairs-from_increasing xs h) is (λ x in_x. omega arith) e in_e in
    omega arith

-- an edge's number is below the number of edges
pub rank-below : (xs : List ℕ) (e : ℕ) → Contains xs e → rank xs e < length xs
rank-below xs e h = let less = rank-less xs e (suc e) h (omega arith) in omega (arith, less, count_by-le-length (λ x. nat_lt x (suc e)) xs)

-- if exactly the first i elements are below t, the rank of t is i
pub rank-split : (xs : List ℕ) (t i : ℕ) → i ≤ length xs → AllWithin (λ y. nat_lt y t ≡ true) xs 0 i →
    AllWithin (λ y. nat_lt y t ≡ false) xs i (length xs) → rank xs t ≡ i
rank-split [] t i le f g = omega arith
rank-split (x ∷ xs) t zero le f g =
    let here : nat_lt x t ≡ false = g 0 0 (omega arith) (omega arith) in
    let ih = rank-split xs t zero (omega arith) (λ k d a b. absurd (omega arith)) (λ k d a b. g (suc k) d (omega arith) (omega arith)) in
    rw (rank-cons x xs t, here) (omega arith)
rank-split (x ∷ xs) t (suc i) le f g =
    let here : nat_lt x t ≡ true = f 0 0 (omega arith) (omega arith) in
    let ih = rank-split xs t i (omega arith) (λ k d a b. f (suc k) d (omega arith) (omega arith))
    (λ k d a b. g (suc k) d (omega arith) (omega arith)) in
    rw (rank-cons x xs t, here) (omega arith)

-- an edge is at the index of its number
pub rank-gets : (xs : List ℕ) (e : ℕ) → IsStrictlyIncreasing xs → Contains xs e → get_or xs (rank xs e) 0 ≡ e
rank-gets xs e h has = by xs (AllPairs-from_increasing xs h) has
  where
    by : (xs : List ℕ) → Rise xs → Contains xs e → get_or xs (rank xs e) 0 ≡ e
    by [] p in_e = absurd (Contains-nil e in_e)
    by (x ∷ xs) p in_e = elim (Contains-cons x e xs in_e) [
      | inl f ↦
          let none : rank xs e ≡ 0 = rank-none xs e (subst (λ y. All (λ z. y < z) xs) f (Rise-head x xs p)) in
          let first : rank (x ∷ xs) e ≡ 0 = rw (rank-cons x xs e) (grind (arith, nat_tests)) in rw first f
      | inr g ↦
          let less : x < e = All-contains (λ m. x < m) xs e (Rise-head x xs p) g in
          let ih = by xs (Rise-tail x xs p) g in
          let next : rank (x ∷ xs) e ≡ suc (rank xs e) = rw (rank-cons x xs e) (grind (arith, nat_tests)) in rw next ih
    ]

pub IsNonDecreasing-rising : (xs : List ℕ) → IsStrictlyIncreasing xs → IsNonDecreasingBy (λ x. x) xs
IsNonDecreasing-rising xs h = λ i j d le inside. elim (cases_lt i j) [
  | inl less ↦ let t = AllPairs-from_increasing xs h i j d less inside in omega arith
  | inr ge ↦ let e : i ≡ j = omega arith in rw e (omega arith)
]

-- the rank of a position that isn't after the first edge is 0
pub rank-first : (xs : List ℕ) (t i : ℕ) → IsStrictlyIncreasing xs → i ≡ 0 → i < length xs → t ≤ get_or xs i 0 → rank xs t ≡ 0
rank-first xs t i h none some behind =
    let rises = IsNonDecreasing-rising xs h in
    let first : t ≤ get_or xs 0 0 = subst (λ k. t ≤ get_or xs k 0) none behind in
    rank-split xs t 0 (omega arith)
    (λ k d a b. absurd (omega arith))
    (λ k d a b.
    let le : get_or xs 0 0 ≤ get_or xs k 0 = rises 0 k 0 a b in
    let same : get_or xs k d ≡ get_or xs k 0 = get_or_default xs k d 0 b in
    rw same (grind (arith, nat_tests)))

-- the rank of a position after an edge, and not after the next one, is the index of that next one
pub rank-between : (xs : List ℕ) (t i : ℕ) → IsStrictlyIncreasing xs → 0 < i → i < length xs → get_or xs (i - 1) 0 < t → t ≤ get_or xs i 0 →
    rank xs t ≡ i
rank-between xs t i h some inside before behind =
    let rises = IsNonDecreasing-rising xs h in
    rank-split xs t i (omega arith)
    (λ k d a b.
    let le : get_or xs k 0 ≤ get_or xs (i - 1) 0 = rises k (i - 1) 0 (omega arith) (omega arith) in
    let same : get_or xs k d ≡ get_or xs k 0 = get_or_default xs k d 0 (omega arith) in
    rw same (grind (arith, nat_tests)))
    (λ k d a b.
    let le : get_or xs i 0 ≤ get_or xs k 0 = rises i k 0 a b in
    let same : get_or xs k d ≡ get_or xs k 0 = get_or_default xs k d 0 b in
    rw same (grind (arith, nat_tests)))
