-- Tags in runs.
use Rattle.std.proofs.Common.{◌≡◌, ℕ, zero, suc, inl, inr, ◌+◌, ◌-◌, ◌<◌, ◌≤◌, List, [], ◌∷◌, ◌++◌, Option, Some, None, take, drop, length, get_or, refl, sym, ap, ◌∙◌, subst, arith, append_assoc, append-nil, length-append}
use Rattle.std.specs.Prelude.{min, max, replicate}
use Rattle.std.proofs.Math.Seq.{take-append-add, drop-append-add}
use Rattle.std.proofs.lemmas.List.{take-append-le, drop-append-le, length-replicate, replicate-append-replicate, take-replicate, drop-replicate, take_all, drop_all, take_rest, at_drop_more}
use Rattle.std.proofs.lemmas.Bool.{cases_lt}
use Rattle.std.specs.List.{AllWithin}
use Rattle.std.specs.List.Sorted.{IsNonDecreasingBy}
use Rattle.html_render_layout_buffer.specs.declared.runs.TagRun.{TagRun}
use Rattle.html_render_layout_buffer.specs.Runs.{copies_of, tags_from, AreRuns, last_as_closed, tags_between}

pub length-tags : {T : Type 0} (rs : List (TagRun T)) (tag : Option T) (s n : ℕ) → AreRuns s rs tag n →
    length (tags_from s rs tag n) + s ≡ n
length-tags [] None s n is = omega (arith, is)
length-tags [] (Some tag) s n is = omega (arith, is, length-replicate (n - s) tag)
length-tags (r ∷ rs) tag s n is =
    omega (arith, is.0, length-tags rs tag r.end n is.1, length-append (replicate (r.end - s) r.tag) (tags_from r.end rs tag n), length-replicate (r.end - s) r.tag)

-- more under the open tag
pub longer : {T : Type 0} (rs : List (TagRun T)) (own : Option T) (tag : T) (s n k m : ℕ) → AreRuns s rs own n → own ≡ Some tag → m ≡ n + k →
    AreRuns s rs own m × (tags_from s rs own m ≡ tags_from s rs own n ++ replicate k tag)
longer rs None tag s n k m is e f = cc
longer [] (Some own) tag s n k m is e f =
    let same : own ≡ tag = cc in
    let sum : m - s ≡ n - s + k = omega (arith, is, f) in
    (omega (arith, is, f), rw (same, sum) (sym (replicate-append-replicate (n - s) k tag)))
longer (r ∷ rs) (Some own) tag s n k m is e f =
    let rest = longer rs (Some own) tag r.end n k m is.1 e f in (
      (is.0, rest.0),
      ap (λ ts. replicate (r.end - s) r.tag ++ ts) rest.1
          ∙ sym (append_assoc (replicate (r.end - s) r.tag) (tags_from r.end rs (Some own) n) (replicate k tag)),
    )

-- more under another tag
pub switched : {T : Type 0} (rs : List (TagRun T)) (own : Option T) (tag : T) (s n k m : ℕ) → AreRuns s rs own n → m ≡ n + k →
    AreRuns s (rs ++ last_as_closed own n) (Some tag) m × (tags_from s (rs ++ last_as_closed own n) (Some tag) m ≡ tags_from s rs own n ++ replicate k tag)
switched [] None tag s n k m is f =
    let sum : m - s ≡ k = omega (arith, is, f) in
    (omega (arith, is, f), rw sum refl)
switched [] (Some own) tag s n k m is f =
    let sum : m - n ≡ k = omega (arith, f) in
    ((is, omega (arith, f)), rw sum refl)
switched (r ∷ rs) own tag s n k m is f =
    let rest = switched rs own tag r.end n k m is.1 f in (
      (is.0, rest.0),
      ap (λ ts. replicate (r.end - s) r.tag ++ ts) rest.1
          ∙ sym (append_assoc (replicate (r.end - s) r.tag) (tags_from r.end rs own n) (replicate k tag)),
    )

-- ---- a part

between-nothing : {T : Type 0} (rs : List (TagRun T)) (tag : Option T) (to : ℕ) → tags_between to to rs tag ≡ []
between-nothing [] None to = refl
between-nothing [] (Some tag) to =
    let none : to - to ≡ 0 = omega arith in
    rw none refl
between-nothing (r ∷ rs) tag to =
    let none : min r.end to - to ≡ 0 = omega arith in
    let same : max to (min r.end to) ≡ to = omega arith in
    rw (none, same) (between-nothing rs tag to)

-- a part of a list that begins with one that ends before the part
later_part : {T : Type 0} (A B : List T) (i j : ℕ) → length A ≤ i → i ≤ j → drop i (take j (A ++ B)) ≡ drop (i - length A) (take (j - length A) B)
later_part A B i j h k =
    let p : i ≡ length A + (i - length A) = omega (arith, h) in
    let q : j ≡ length A + (j - length A) = omega (arith, h, k) in
    ap (λ n. drop i (take n (A ++ B))) q ∙ ap (drop i) (take-append-add A B (j - length A))
    ∙ ap (λ n. drop n (A ++ take (j - length A) B)) p ∙ drop-append-add A (take (j - length A) B) (i - length A)

-- one that begins inside the first
across : {T : Type 0} (A B : List T) (i j : ℕ) → i ≤ length A → length A ≤ j → drop i (take j (A ++ B)) ≡ drop i A ++ take (j - length A) B
across A B i j h k =
    let q : j ≡ length A + (j - length A) = omega (arith, k) in
    ap (λ n. drop i (take n (A ++ B))) q ∙ ap (drop i) (take-append-add A B (j - length A)) ∙ drop-append-le i A (take (j - length A) B) h

between_last : {T : Type 0} (tag : T) (at to s n : ℕ) → at ≤ to → to ≤ n → s ≤ at →
    replicate (to - at) tag ≡ drop (at - s) (take (to - s) (replicate (n - s) tag))
between_last tag at to s n h k l =
    let e : to - s - (at - s) ≡ to - at = omega arith in
    rw (take-replicate (to - s) (n - s) tag (omega arith), drop-replicate (at - s) (to - s) tag, e) refl

-- the part begins behind the first run
between-behind : {T : Type 0} (r : TagRun T) (rs : List (TagRun T)) (tag : Option T) (at to s : ℕ) (B : List T) → s ≤ r.end → r.end ≤ at → at ≤ to →
    tags_between at to rs tag ≡ drop (at - r.end) (take (to - r.end) B) →
    tags_between at to (r ∷ rs) tag ≡ drop (at - s) (take (to - s) (replicate (r.end - s) r.tag ++ B))
between-behind r rs tag at to s B p q h e =
    let none : min r.end to - at ≡ 0 = omega arith in
    let same : max at (min r.end to) ≡ at = omega arith in
    let len = length-replicate (r.end - s) r.tag in
    let first : at - s - length (replicate (r.end - s) r.tag) ≡ at - r.end = omega (arith, len) in
    let last : to - s - length (replicate (r.end - s) r.tag) ≡ to - r.end = omega (arith, len) in
    rw (none, same, later_part (replicate (r.end - s) r.tag) B (at - s) (to - s) (omega (arith, len)) (omega arith), first, last) e

-- it begins inside the first run, and ends behind it
between-across : {T : Type 0} (r : TagRun T) (rs : List (TagRun T)) (tag : Option T) (at to s : ℕ) (B : List T) → s ≤ at → at < r.end → r.end ≤ to →
    tags_between r.end to rs tag ≡ drop (r.end - r.end) (take (to - r.end) B) →
    tags_between at to (r ∷ rs) tag ≡ drop (at - s) (take (to - s) (replicate (r.end - s) r.tag ++ B))
between-across r rs tag at to s B p q h e =
    let end : min r.end to ≡ r.end = omega arith in
    let same : max at r.end ≡ r.end = omega arith in
    let none : r.end - r.end ≡ 0 = omega arith in
    let len = length-replicate (r.end - s) r.tag in
    let last : to - s - length (replicate (r.end - s) r.tag) ≡ to - r.end = omega (arith, len) in
    let first : r.end - s - (at - s) ≡ r.end - at = omega arith in
    rw (
      end,
      same,
      across (replicate (r.end - s) r.tag) B (at - s) (to - s) (omega (arith, len)) (omega (arith, len)),
      last,
      drop-replicate (at - s) (r.end - s) r.tag,
      first,
    ) (ap (λ ts. replicate (r.end - at) r.tag ++ ts) (rw none at e))

-- it ends inside the first run
between-inside : {T : Type 0} (r : TagRun T) (rs : List (TagRun T)) (tag : Option T) (at to s : ℕ) (B : List T) → s ≤ at → at ≤ to → to < r.end →
    tags_between at to (r ∷ rs) tag ≡ drop (at - s) (take (to - s) (replicate (r.end - s) r.tag ++ B))
between-inside r rs tag at to s B p q h =
    let end : min r.end to ≡ to = omega arith in
    let same : max at to ≡ to = omega arith in
    let len = length-replicate (r.end - s) r.tag in
    let first : to - s - (at - s) ≡ to - at = omega arith in
    rw (
      end,
      same,
      between-nothing rs tag to,
      take-append-le (to - s) (replicate (r.end - s) r.tag) B (omega (arith, len)),
      take-replicate (to - s) (r.end - s) r.tag (omega arith),
      drop-replicate (at - s) (to - s) r.tag,
      first,
    ) (append-nil (replicate (to - at) r.tag))

pub between : {T : Type 0} (rs : List (TagRun T)) (tag : Option T) (at to s n : ℕ) → AreRuns s rs tag n → at ≤ to → to ≤ n → s ≤ at →
    tags_between at to rs tag ≡ drop (at - s) (take (to - s) (tags_from s rs tag n))
between [] None at to s n is h k l = sym (ap (λ (ts : List _). drop (at - s) ts) (take_all (to - s) [] (omega arith)) ∙ drop_all (at - s) [] (omega arith))
between [] (Some tag) at to s n is h k l = between_last tag at to s n h k l
between {T} (r ∷ rs) tag at to s n is h k l =
    elim (cases_lt at r.end) [
      | inl p ↦ elim (cases_lt to r.end) [
        | inl q ↦ between-inside r rs tag at to s (tags_from r.end rs tag n) l h q
        | inr q ↦ between-across r rs tag at to s (tags_from r.end rs tag n) l p q (between rs tag r.end to r.end n is.1 q k (omega arith))
      ]
      | inr p ↦ between-behind r rs tag at to s (tags_from r.end rs tag n) is.0 p h (between rs tag at to r.end n is.1 h k p)
    ]

-- an opened value
pub length-is : {T : Type 0} (rs : List (TagRun T)) (tag : Option T) (n : ℕ) (ts : List T) → AreRuns 0 rs tag n → tags_from 0 rs tag n ≡ ts → n ≡ length ts
length-is rs tag n ts is e = omega (arith, length-tags rs tag 0 n is, ap length e)

pub between_is : {T : Type 0} (rs qs : List (TagRun T)) (tag : Option T) (from to n : ℕ) (ts : List T) → AreRuns 0 rs tag n → tags_from 0 rs tag n ≡ ts →
    qs ≡ rs → from ≤ to → to ≤ length ts → tags_between from to qs tag ≡ drop from (take to ts)
between_is rs qs tag from to n ts is e f h k =
    let a : from - 0 ≡ from = omega arith in
    let b : to - 0 ≡ to = omega arith in
    rw (f, ← e) (between rs tag from to 0 n is h (omega (arith, length-is rs tag n ts is e)) (omega arith) ∙ rw (a, b) refl)

-- ---- the runs that end before a part

floor : {T : Type 0} (rs : List (TagRun T)) (tag : Option T) (s n k : ℕ) (d : TagRun T) → AreRuns s rs tag n → k < length rs → s ≤ (get_or rs k d).end
floor [] tag s n k d is h = absurd (omega arith)
floor (r ∷ rs) tag s n zero d is h = is.0
floor (r ∷ rs) tag s n (suc k) d is h = omega (arith, is.0, floor rs tag r.end n k d is.1 (omega arith))

rising : {T : Type 0} (rs : List (TagRun T)) (tag : Option T) (s n : ℕ) → AreRuns s rs tag n → (i j : ℕ) (d : TagRun T) → i ≤ j → j < length rs →
    (get_or rs i d).end ≤ (get_or rs j d).end
rising [] tag s n is i j d h k = absurd (omega arith)
rising (r ∷ rs) tag s n is zero zero d h k = omega arith
rising (r ∷ rs) tag s n is zero (suc j) d h k = floor rs tag r.end n j d is.1 (omega arith)
rising (r ∷ rs) tag s n is (suc i) zero d h k = absurd (omega arith)
rising (r ∷ rs) tag s n is (suc i) (suc j) d h k = rising rs tag r.end n is.1 i j d (omega arith) (omega arith)

pub rising-is : {T : Type 0} (rs qs : List (TagRun T)) (tag : Option T) (n : ℕ) → AreRuns 0 rs tag n → qs ≡ rs → IsNonDecreasingBy (λ (r : TagRun T). r.end) qs
rising-is rs qs tag n is e = rw e (rising rs tag 0 n is)

pub between-later : {T : Type 0} (rs : List (TagRun T)) (tag : Option T) (from to i : ℕ) → AllWithin (λ (r : TagRun T). r.end ≤ from) rs 0 i → i ≤ length rs → from ≤ to →
    tags_between from to (drop i rs) tag ≡ tags_between from to rs tag
between-later rs tag from to zero all h k = refl
between-later [] tag from to (suc i) all h k = absurd (omega arith)
between-later (r ∷ rs) tag from to (suc i) all h k =
    let here : r.end ≤ from = all 0 r (omega arith) (omega arith) in
    let none : min r.end to - from ≡ 0 = omega arith in
    let same : max from (min r.end to) ≡ from = omega arith in
    rw (none, same) (between-later rs tag from to i (λ j d p q. all (suc j) d (omega arith) (omega arith)) (omega arith) k)

pub between-empty : {T : Type 0} (rs : List (TagRun T)) (tag : Option T) (at to : ℕ) → at ≡ to → tags_between at to rs tag ≡ []
between-empty rs tag at to e = rw e (between-nothing rs tag to)

pub part-is : {T : Type 0} (rs qs : List (TagRun T)) (tag : Option T) (from to n i : ℕ) (ts : List T) → AreRuns 0 rs tag n → tags_from 0 rs tag n ≡ ts →
    qs ≡ rs → from ≤ to → to ≤ length ts → AllWithin (λ (r : TagRun T). r.end ≤ from) qs 0 i → i ≤ length qs →
    tags_between from to (take (length qs - i) (drop i qs)) tag ≡ drop from (take to ts)
part-is {T} rs qs tag from to n i ts is e f h k all within =
    ap (λ (y : List (TagRun T)). tags_between from to y tag) (take_rest qs i) ∙ between-later qs tag from to i all within h ∙ between_is rs qs tag from to n ts is e f h k

-- ---- the run at a place

reach-end : {T : Type 0} (rs : List (TagRun T)) (tag : Option T) (s n : ℕ) → AreRuns s rs tag n → s ≤ n
reach-end [] None s n is = omega (arith, is)
reach-end [] (Some t) s n is = is
reach-end (r ∷ rs) tag s n is = omega (arith, is.0, reach-end rs tag r.end n is.1)

ends-within : {T : Type 0} (rs : List (TagRun T)) (tag : Option T) (s n k : ℕ) (d : TagRun T) → AreRuns s rs tag n → k < length rs → (get_or rs k d).end ≤ n
ends-within [] tag s n k d is h = absurd (omega (arith, h))
ends-within (r ∷ rs) tag s n zero d is h = reach-end rs tag r.end n is.1
ends-within (r ∷ rs) tag s n (suc k) d is h =
    let l : k < length rs = omega (arith, h) in
    ends-within rs tag r.end n k d is.1 l

pub span-within : {T : Type 0} (rs qs : List (TagRun T)) (own : Option T) (n i : ℕ) (ts : List T) (run : TagRun T) → AreRuns 0 rs own n →
    tags_from 0 rs own n ≡ ts → qs ≡ rs → i < length qs → run ≡ get_or qs i run → run.end ≤ length ts
span-within rs qs own n i ts run is e f h at =
    let l : i < length rs = omega (arith, h, ap length f) in
    let same : run.end ≡ (get_or rs i run).end = ap (λ r. r.end) at ∙ ap (λ y. (get_or y i run).end) f in
    omega (arith, same, ends-within rs own 0 n i run is l, length-is rs own n ts is e)

pub span-closed : {T : Type 0} (rs qs : List (TagRun T)) (own : Option T) (place n i : ℕ) (ts : List T) (run : TagRun T) → AreRuns 0 rs own n →
    tags_from 0 rs own n ≡ ts → qs ≡ rs → AllWithin (λ (r : TagRun T). r.end ≤ place) qs 0 i → i < length qs → run ≡ get_or qs i run → place < run.end →
    drop place (take run.end ts) ≡ replicate (run.end - place) run.tag
span-closed {T} rs qs own place n i ts run is e f all h at after =
    let k : place ≤ run.end = omega (arith, after) in
    let l : i ≤ length qs = omega (arith, h) in
    let rest : List (TagRun T) = drop (i + 1) qs in
    let a : min run.end run.end ≡ run.end = omega arith in
    let b : max place run.end ≡ run.end = omega (arith, k) in
    let here : tags_between place run.end (run ∷ rest) own ≡ replicate (run.end - place) run.tag =
    ap (λ m. replicate (m - place) run.tag ++ tags_between (max place m) run.end rest own) a
    ∙ ap (λ m. replicate (run.end - place) run.tag ++ tags_between m run.end rest own) b
    ∙ ap (λ (y : List T). replicate (run.end - place) run.tag ++ y) (between-empty rest own run.end run.end refl)
    ∙ append-nil (replicate (run.end - place) run.tag) in
    sym (between_is rs qs own place run.end n ts is e f k (span-within rs qs own n i ts run is e f h at))
    ∙ sym (between-later qs own place run.end i all l k)
    ∙ at_drop_more (λ (y : List (TagRun T)). tags_between place run.end y own) qs i run h
    ∙ ap (λ (r : TagRun T). tags_between place run.end (r ∷ rest) own) (sym at) ∙ here

pub span-open : {T : Type 0} (rs qs : List (TagRun T)) (own : Option T) (tag : T) (place n i : ℕ) (ts : List T) → AreRuns 0 rs own n →
    tags_from 0 rs own n ≡ ts → qs ≡ rs → AllWithin (λ (r : TagRun T). r.end ≤ place) qs 0 i → i ≡ length qs → own ≡ Some tag → place < length ts →
    drop place (take n ts) ≡ replicate (n - place) tag
span-open {T} rs qs own tag place n i ts is e f all h some below =
    let size : n ≡ length ts = length-is rs own n ts is e in
    let k : place ≤ n = omega (arith, size, below) in
    let l : i ≤ length qs = omega (arith, h) in
    let m : n ≤ length ts = omega (arith, size) in
    let q : length qs ≤ i = omega (arith, h) in
    sym (between_is rs qs own place n n ts is e f k m) ∙ sym (between-later qs own place n i all l k)
    ∙ ap (λ (y : List (TagRun T)). tags_between place n y own) (drop_all i qs q) ∙ ap (λ (o : Option T). copies_of o (n - place)) some

closed-end : {T : Type 0} (rs : List (TagRun T)) (own : Option T) (s n place : ℕ) → AreRuns s rs own n → own ≡ None →
    AllWithin (λ (r : TagRun T). r.end ≤ place) rs 0 (length rs) → s ≤ place → n ≤ place
closed-end [] None s n place is e all h = omega (arith, is, h)
closed-end [] (Some t) s n place is e all h = cc
closed-end (r ∷ rs) own s n place is e all h =
    let here : r.end ≤ place = all 0 r (omega arith) (omega arith) in
    closed-end rs own r.end n place is.1 e (λ j d p q. all (suc j) d (omega arith) (omega arith)) here

-- without a last run, a place has a closed one
pub span-some : {T : Type 0} (rs qs : List (TagRun T)) (own : Option T) (place n i : ℕ) (ts : List T) → AreRuns 0 rs own n → tags_from 0 rs own n ≡ ts → qs ≡ rs →
    AllWithin (λ (r : TagRun T). r.end ≤ place) qs 0 i → i ≡ length qs → own ≡ None → place < length ts → ⊥
span-some {T} rs qs own place n i ts is e f all h none below =
    let whole : AllWithin (λ (r : TagRun T). r.end ≤ place) rs 0 (length rs) =
    subst (λ (y : List (TagRun T)). AllWithin (λ (r : TagRun T). r.end ≤ place) y 0 (length y)) f
    (subst (λ k. AllWithin (λ (r : TagRun T). r.end ≤ place) qs 0 k) h all) in
    let low : 0 ≤ place = omega arith in
    omega (arith, closed-end rs own 0 n place is none whole low, length-is rs own n ts is e, below)
