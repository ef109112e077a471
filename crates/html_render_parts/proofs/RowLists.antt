-- Rows of items stay the same when a row is pushed.
use Rattle.std.proofs.Common.{◌≡◌, ℕ, ◌+◌, ◌-◌, ◌<◌, ◌≤◌, List, [], ◌∷◌, ◌++◌, drop, get_or, length, map, take, refl, sym, ap, ◌∙◌, subst, arith}
use Rattle.std.proofs.Math.Seq.{drop-append_seam}
use Rattle.std.proofs.lemmas.List.{drop-append-le, get_or-map, length-append, length-drop, length-map, map_push, take-append-le, take_all}
use Rattle.std.proofs.lemmas.List.Elements.{All-append, All-cons, All-head, All-nil, All-tail, All-weaker}
use Rattle.html_render_parts.specs.declared.table.row_list.RowRange.{RowRange}
use Rattle.html_render_parts.specs.RowLists.{AreRanges, row_in, rows_in}

abbrev IsRange : ℕ → RowRange → Type 0
IsRange count r = (r.start ≤ r.end) × (r.end ≤ count)

row-more : {T : Type 0} (items more : List T) (r : RowRange) → IsRange (length items) r → row_in (items ++ more) r ≡ row_in items r
row-more items more r h =
    let before : r.start ≤ length items = (let a = h.0 in let b = h.1 in omega arith) in
    let left : r.end - r.start ≤ length (drop r.start items) = rw (length-drop r.start items) (let b = h.1 in omega arith) in
    ap (take (r.end - r.start)) (drop-append-le r.start items more before) ∙ take-append-le (r.end - r.start) (drop r.start items) more left

rows-more : {T : Type 0} (items more : List T) (ranges : List RowRange) → AreRanges items ranges → rows_in (items ++ more) ranges ≡ rows_in items ranges
rows-more items more [] h = refl
rows-more items more (r ∷ rs) h =
    let one = row-more items more r (All-head (IsRange (length items)) r rs h) in
    let rest = rows-more items more rs (All-tail (IsRange (length items)) r rs h) in
    rw (one, rest) refl

pub ranges_more : {T : Type 0} (items more made : List T) (ranges : List RowRange) → made ≡ items ++ more → AreRanges items ranges → AreRanges made ranges
ranges_more items more made ranges is h =
    let count : length made ≡ length items + length more = ap length is ∙ length-append items more in
    All-weaker (IsRange (length items)) (IsRange (length made)) (λ r w. (w.0, let b = w.1 in omega arith)) ranges h

row-last : {T : Type 0} (items more : List T) (r : RowRange) → r.start ≡ length items → r.end ≡ length items + length more → row_in (items ++ more) r ≡ more
row-last items more r start end =
    let count : length more ≤ r.end - r.start = omega arith in
    ap (λ n. take (r.end - r.start) (drop n (items ++ more))) start
    ∙ ap (take (r.end - r.start)) (drop-append_seam items more)
    ∙ take_all (r.end - r.start) more count

pub ranges_pushed : {T : Type 0} (items more made : List T) (ranges all : List RowRange) (r : RowRange) → made ≡ items ++ more →
    all ≡ ranges ++ r ∷ [] → r.start ≡ length items → r.end ≡ length made → AreRanges items ranges → AreRanges made all
ranges_pushed items more made ranges all r is pushed start end h =
    let count : length made ≡ length items + length more = ap length is ∙ length-append items more in
    let rises : r.start ≤ r.end = omega arith in
    let ends : r.end ≤ length made = omega arith in
    let one : IsRange (length made) r = (rises, ends) in
    subst (AreRanges made) (sym pushed)
    (All-append (IsRange (length made)) ranges (r ∷ []) (ranges_more items more made ranges is h)
    (All-cons (IsRange (length made)) r [] one (All-nil (IsRange (length made)))))

pub rows_pushed : {T : Type 0} (items more made : List T) (ranges all : List RowRange) (r : RowRange) → made ≡ items ++ more →
    all ≡ ranges ++ r ∷ [] → r.start ≡ length items → r.end ≡ length made → AreRanges items ranges → rows_in made all ≡ rows_in items ranges ++ more ∷ []
rows_pushed {T} items more made ranges all r is pushed start end h =
    let last : r.end ≡ length items + length more = end ∙ ap length is ∙ length-append items more in
    ap (rows_in made) pushed ∙ map_push (row_in made) ranges r
    ∙ ap (λ l. map (row_in l) ranges ++ row_in l r ∷ []) is
    ∙ ap (λ rows. rows ++ row_in (items ++ more) r ∷ []) (rows-more items more ranges h)
    ∙ ap (λ row. rows_in items ranges ++ row ∷ []) (row-last items more r start last)

-- ---- a row at an index

pub range_there : {T : Type 0} (items : List T) (ranges : List RowRange) (row : ℕ) → row < length (rows_in items ranges) → row < length ranges
range_there items ranges row inside = subst (λ n. row < n) (length-map ranges (row_in items)) inside

pub row_found : {T : Type 0} (items : List T) (ranges : List RowRange) (row : ℕ) (r : RowRange) (found : List T) → row < length ranges →
    get_or ranges row r ≡ r → found ≡ row_in items r → found ≡ get_or (rows_in items ranges) row found
row_found items ranges row r found inside at is =
    is ∙ ap (row_in items) (sym at) ∙ sym (get_or-map (row_in items) ranges row r found inside)
