-- The cells that hang into a row are all cells of the rows above that reach it.
use Rattle.std.proofs.Common.{◌≡◌, ℕ, ◌+◌, ◌<◌, Bool, true, false, cond, ◌&&◌, List, [], ◌∷◌, ◌++◌, length, get_or, filter, drop, take, All}
use Rattle.std.proofs.Common.{refl, sym, ap, ◌∙◌, subst, append_assoc, arith, inl, inr, suc, zero}
use Rattle.std.specs.Prelude.{Contains, count_by, flat_map}
use Rattle.std.proofs.lemmas.Bool.{cases_Bool, lt-ltb, ltb-true}
use Rattle.std.proofs.lemmas.Bool.Decides.{leb_tells}
use Rattle.std.proofs.lemmas.List.{append-nil}
use Rattle.std.proofs.lemmas.List.Elements.{All-nil, All-cons, All-append, All-contains, All-contains_itself, filter-append, filter_passes}
use Rattle.std.proofs.lemmas.List.Sums.{sum_by-cons}
use Rattle.html_render_parts.specs.declared.table.Span.{Span}
use Rattle.html_render_parts.specs.declared.table.placement.Place.{Place}
use Rattle.html_render_parts.specs.declared.table.placement.PositionedCell.{PositionedCell}
use Rattle.html_render_parts.specs.Placement.{bottom_rows, by_column, by_column_with, end_of, hanging, own_from, due_end, not_due}
use Rattle.html_render_parts.specs.Positions.{hangs_into}
use Rattle.html_render_parts.specs.PlacementSteps.{AllFrom, IsByColumn}
use Rattle.html_render_parts.specs.OwnCells.{own_rows_from}
use Rattle.html_render_parts.specs.Placement.{placed_rows, row_from, rows_from}
use Rattle.html_render_parts.specs.CellsAbove.{cells_above, own_rows}
use Rattle.html_render_parts.proofs.EdgeRanks.{Contains-cons, Contains-here, Contains-nil, Contains-there}
use Rattle.html_render_parts.proofs.HangingOrder.{AllFrom-filter, AllFrom-less, IsByColumn-by_column, IsByColumn-filter, by_column-append, by_column-own, merged}
use Rattle.html_render_parts.proofs.HangingOrder.{by_column-same, by_column_with-front, All-hanging}

-- ---- filters and the order by column

-- inserting a cell that passes a test, and then filtering, is filtering and then inserting it
kept-with : (p : PositionedCell → Bool) (c : PositionedCell) (cs : List PositionedCell) → IsByColumn cs → p c ≡ true →
    filter p (by_column_with c cs) ≡ by_column_with c (filter p cs)
kept-with p c [] h e = rw e refl
kept-with p c (d ∷ ds) h e = elim (leb_tells c.column d.column) [
  | inl t ↦
      let from : AllFrom c.column (d ∷ ds) = (t.1, AllFrom-less c.column d.column ds t.1 h.0) in
      rw (t.0, e) (sym (by_column_with-front c (filter p (d ∷ ds)) (AllFrom-filter p c.column (d ∷ ds) from)))
  | inr t ↦ elim (cases_Bool (p d)) [
    | inl f ↦ rw (t.0, f, t.0) (ap (λ r. d ∷ r) (kept-with p c ds h.1 e))
    | inr f ↦ rw (t.0, f) (kept-with p c ds h.1 e)
  ]
]

-- inserting a cell that fails a test, and then filtering, is filtering alone
dropped-with : (p : PositionedCell → Bool) (c : PositionedCell) (cs : List PositionedCell) → p c ≡ false → filter p (by_column_with c cs) ≡ filter p cs
dropped-with p c [] e = rw e refl
dropped-with p c (d ∷ ds) e = elim (leb_tells c.column d.column) [
  | inl t ↦ rw (t.0, e) refl
  | inr t ↦ elim (cases_Bool (p d)) [
    | inl f ↦ rw (t.0, f) (ap (λ r. d ∷ r) (dropped-with p c ds e))
    | inr f ↦ rw (t.0, f) (dropped-with p c ds e)
  ]
]

filter-by_column : (p : PositionedCell → Bool) (cs : List PositionedCell) → filter p (by_column cs) ≡ by_column (filter p cs)
filter-by_column p [] = refl
filter-by_column p (c ∷ cs) = elim (cases_Bool (p c)) [
  | inl e ↦ kept-with p c (by_column cs) (IsByColumn-by_column cs) e ∙ ap (by_column_with c) (filter-by_column p cs) ∙ sym (rw e refl)
  | inr e ↦ dropped-with p c (by_column cs) e ∙ filter-by_column p cs ∙ sym (rw e refl)
]

-- a filter after a weaker one is the filter alone
filter-both : (p q : PositionedCell → Bool) → ((c : PositionedCell) → p c ≡ true → q c ≡ true) → (cs : List PositionedCell) → filter p (filter q cs) ≡ filter p cs
filter-both p q h [] = refl
filter-both p q h (c ∷ cs) = elim (cases_Bool (p c)) [
  | inl e ↦ rw (h c e, e) (ap (λ r. c ∷ r) (filter-both p q h cs))
  | inr e ↦ elim (cases_Bool (q c)) [
    | inl f ↦ rw (f, e) (filter-both p q h cs)
    | inr f ↦ rw (f, e) (filter-both p q h cs)
  ]
]

ordered-is : (cs : List PositionedCell) → by_column cs ≡ cs → IsByColumn cs
ordered-is cs e = subst IsByColumn e (IsByColumn-by_column cs)

-- sorting sorted cells and others, which are in order, is sorting all
by_column-again : (xs os : List PositionedCell) → by_column os ≡ os → by_column (by_column xs ++ os) ≡ by_column (xs ++ os)
by_column-again xs os e =
    by_column-append (by_column xs) os e ∙ ap (λ r. merged r os) (by_column-same (by_column xs) (IsByColumn-by_column xs))
    ∙ sym (by_column-append xs os e)

-- ---- from row to row

-- a cell that hangs into the next row hangs into this one
hangs-before : (row : ℕ) (c : PositionedCell) → hangs_into (row + 1) c ≡ true → hangs_into row c ≡ true
hangs-before row c e = let more = ltb-true (row + 1) (end_of c) e in lt-ltb row (end_of c) (omega arith)

-- of all cells above a row and its own, those that hang into the next row are among its own and those that hang into it
pub hanging-step : (row : ℕ) (above own : List PositionedCell) → by_column own ≡ own →
    hanging (row + 1) (hanging row above ++ own) ≡ hanging (row + 1) (above ++ own)
hanging-step row above own e =
    let p = hangs_into (row + 1) in
    let os = filter p own in
    let ordered : by_column os ≡ os = by_column-same os (IsByColumn-filter p own (ordered-is own e)) in
    let old : filter p (hanging row above) ≡ by_column (filter p above) =
    filter-both p (hangs_into row) (hangs-before row) (by_column above) ∙ filter-by_column p above in
    filter-by_column p (hanging row above ++ own)
    ∙ ap by_column (filter-append p (hanging row above) own)
    ∙ ap (λ xs. by_column (xs ++ os)) old
    ∙ by_column-again (filter p above) os ordered
    ∙ ap by_column (sym (filter-append p above own))
    ∙ sym (filter-by_column p (above ++ own))

abbrev all_of : List (List PositionedCell) → List PositionedCell
all_of rows = flat_map (λ own. own) rows

-- the cells that hang into the next row are those of all rows above it that do
next-hanging : (row : ℕ) (hung above : List PositionedCell) (cells : List Span) → hung ≡ hanging row above →
    hanging (row + 1) (hung ++ own_from row 0 hung cells) ≡ hanging (row + 1) (above ++ own_from row 0 hung cells)
next-hanging row hung above cells e =
    ap (λ hs. hanging (row + 1) (hs ++ own_from row 0 hung cells)) e
    ∙ hanging-step row above (own_from row 0 hung cells) (by_column-own row 0 hung cells)

-- the cells that hang into a row `n`, and with them its places and its own cells
record IsRow (n : ℕ) (above : List PositionedCell) (cells : List Span) (ps : List Place) (os : List PositionedCell) : Type 0 where
  pub hung : List PositionedCell
  pub are : hung ≡ hanging n above
  pub places : ps ≡ row_from 0 hung cells
  pub own : os ≡ own_from n 0 hung cells

row-at : (rows : List (List Span)) (from : ℕ) (hung above : List PositionedCell) → hung ≡ hanging from above → (k n : ℕ) → n ≡ from + k →
    k < length rows
    → IsRow n (above ++ all_of (take k (own_rows_from from hung rows))) (get_or rows k []) (get_or (rows_from from hung rows) k [])
    (get_or (own_rows_from from hung rows) k [])
row-at [] from hung above e k n at inside = absurd (omega arith)
row-at (cells ∷ more) from hung above e zero n at inside =
    let here : n ≡ from = omega arith in
    rw (here, append-nil above) (record { hung = hung; are = e; places = refl; own = refl })
row-at (cells ∷ more) from hung above e (suc k) n at inside =
    let own = own_from from 0 hung cells in
    let next = hanging (from + 1) (hung ++ own) in
    let is = row-at more (from + 1) next (above ++ own) (next-hanging from hung above cells e) k n (omega arith) (omega arith) in
    record {
      hung = is.hung;
      are = is.are ∙ ap (hanging n) (append_assoc above own (all_of (take k (own_rows_from (from + 1) next more))));
      places = is.places;
      own = is.own;
    }

bottom-at : (rows : List (List Span)) (from : ℕ) (hung above : List PositionedCell) → hung ≡ hanging from above → (n : ℕ) → n ≡ from + length rows →
    drop (length rows) (rows_from from hung rows)
    ≡ bottom_rows (hanging n (above ++ all_of (take (length rows) (own_rows_from from hung rows))))
bottom-at [] from hung above e n at =
    let here : n ≡ from = omega arith in
    rw (here, append-nil above, ← e) refl
bottom-at (cells ∷ more) from hung above e n at =
    let own = own_from from 0 hung cells in
    let next = hanging (from + 1) (hung ++ own) in
    bottom-at more (from + 1) next (above ++ own) (next-hanging from hung above cells e) n (omega arith)
    ∙ ap (λ cs. bottom_rows (hanging n cs)) (append_assoc above own (all_of (take (length more) (own_rows_from (from + 1) next more))))

pub rows-above : (rows : List (List Span)) (row : ℕ) → row < length rows →
    get_or (placed_rows rows) row [] ≡ row_from 0 (hanging row (cells_above row rows)) (get_or rows row [])
rows-above rows row inside =
    let is = row-at rows 0 [] [] refl row row (omega arith) inside in
    is.places ∙ ap (λ hs. row_from 0 hs (get_or rows row [])) is.are

pub own-above : (rows : List (List Span)) (row : ℕ) → row < length rows →
    get_or (own_rows rows) row [] ≡ own_from row 0 (hanging row (cells_above row rows)) (get_or rows row [])
own-above rows row inside =
    let is = row-at rows 0 [] [] refl row row (omega arith) inside in
    is.own ∙ ap (λ hs. own_from row 0 hs (get_or rows row [])) is.are

pub bottom-above : (rows : List (List Span)) →
    drop (length rows) (placed_rows rows) ≡ bottom_rows (hanging (length rows) (cells_above (length rows) rows))
bottom-above rows = bottom-at rows 0 [] [] refl (length rows) (omega arith)

-- ---- the cells above a row are of earlier rows

own-of_row : (row cursor : ℕ) (hs : List PositionedCell) (ss : List Span) (n : ℕ) → row < n → All (λ c. c.row < n) (own_from row cursor hs ss)
own-of_row row cursor hs [] n less = All-nil (λ (c : PositionedCell). c.row < n)
own-of_row row cursor hs (s ∷ ss) n less =
    let column = due_end cursor hs in
    All-cons (λ (c : PositionedCell). c.row < n) (record { row = row; column = column; span = s })
    (own_from row (column + s.colspan) (not_due cursor hs) ss) less (own-of_row row (column + s.colspan) (not_due cursor hs) ss n less)

above-of_rows : (rows : List (List Span)) (from : ℕ) (hung : List PositionedCell) (k n : ℕ) → n ≡ from + k →
    All (λ c. c.row < n) (all_of (take k (own_rows_from from hung rows)))
above-of_rows rows from hung zero n at = All-nil (λ (c : PositionedCell). c.row < n)
above-of_rows [] from hung (suc k) n at = All-nil (λ (c : PositionedCell). c.row < n)
above-of_rows (cells ∷ more) from hung (suc k) n at =
    let own = own_from from 0 hung cells in
    let next = hanging (from + 1) (hung ++ own) in
    All-append (λ (c : PositionedCell). c.row < n) own (all_of (take k (own_rows_from (from + 1) next more)))
    (own-of_row from 0 hung cells n (omega arith)) (above-of_rows more (from + 1) next k n (omega arith))

pub above-earlier : (rows : List (List Span)) (row : ℕ) → All (λ c. c.row < row) (cells_above row rows)
above-earlier rows row = above-of_rows rows 0 [] row row (omega arith)

-- ---- which cells hang into a row

contains-with : (a : PositionedCell) (cs : List PositionedCell) → Contains (by_column_with a cs) a
contains-with a [] = Contains-here a []
contains-with a (d ∷ ds) = elim (leb_tells a.column d.column) [
  | inl t ↦ rw t.0 (Contains-here a (d ∷ ds))
  | inr t ↦ rw t.0 (Contains-there d a (by_column_with a ds) (contains-with a ds))
]

contains-with_more : (a c : PositionedCell) (cs : List PositionedCell) → Contains cs c → Contains (by_column_with a cs) c
contains-with_more a c [] h = absurd (Contains-nil c h)
contains-with_more a c (d ∷ ds) h = elim (leb_tells a.column d.column) [
  | inl t ↦ rw t.0 (Contains-there a c (d ∷ ds) h)
  | inr t ↦ rw t.0 (elim (Contains-cons d c ds h) [
    | inl e ↦ subst (Contains (d ∷ by_column_with a ds)) e (Contains-here d (by_column_with a ds))
    | inr g ↦ Contains-there d c (by_column_with a ds) (contains-with_more a c ds g)
  ])
]

contains-ordered : (c : PositionedCell) (cs : List PositionedCell) → Contains cs c → Contains (by_column cs) c
contains-ordered c [] h = h
contains-ordered c (d ∷ ds) h = elim (Contains-cons d c ds h) [
  | inl e ↦ subst (λ x. Contains (by_column_with d (by_column ds)) x) e (contains-with d (by_column ds))
  | inr g ↦ contains-with_more d c (by_column ds) (contains-ordered c ds g)
]

contains-passing : (p : PositionedCell → Bool) (c : PositionedCell) (cs : List PositionedCell) → p c ≡ true → Contains cs c → Contains (filter p cs) c
contains-passing p c [] e h = h
contains-passing p c (d ∷ ds) e h = elim (Contains-cons d c ds h) [
  | inl f ↦ let passes : p d ≡ true = ap p f ∙ e in
      rw passes (subst (Contains (d ∷ filter p ds)) f (Contains-here d (filter p ds)))
  | inr g ↦ elim (cases_Bool (p d)) [
    | inl t ↦ rw t (Contains-there d c (filter p ds) (contains-passing p c ds e g))
    | inr t ↦ rw t (contains-passing p c ds e g)
  ]
]

pub hangs-there : (row : ℕ) (above : List PositionedCell) (c : PositionedCell) → Contains (hanging row above) c → Contains above c × (row < end_of c)
hangs-there row above c h = (
  All-contains (Contains above) (hanging row above) c (All-hanging (Contains above) row above (All-contains_itself above)) h,
  ltb-true row (end_of c)
      (All-contains (λ d. hangs_into row d ≡ true) (hanging row above) c (filter_passes (hangs_into row) (by_column above)) h),
)

pub there-hangs : (row : ℕ) (above : List PositionedCell) (c : PositionedCell) → Contains above c × (row < end_of c) → Contains (hanging row above) c
there-hangs row above c h =
    contains-passing (hangs_into row) c (by_column above) (lt-ltb row (end_of c) h.1) (contains-ordered c above h.0)

-- ---- how often each cell is there

count-cons : (q : PositionedCell → Bool) (c : PositionedCell) (cs : List PositionedCell) → count_by q (c ∷ cs) ≡ cond (q c) 1 0 + count_by q cs
count-cons q c cs = sum_by-cons (λ x. cond (q x) 1 0) c cs

count-with : (q : PositionedCell → Bool) (c : PositionedCell) (cs : List PositionedCell) → count_by q (by_column_with c cs) ≡ cond (q c) 1 0 + count_by q cs
count-with q c [] = count-cons q c []
count-with q c (d ∷ ds) = elim (leb_tells c.column d.column) [
  | inl t ↦ rw t.0 (count-cons q c (d ∷ ds))
  | inr t ↦ rw t.0 (omega (arith, count-cons q d (by_column_with c ds), count-with q c ds, count-cons q d ds))
]

count-ordered : (q : PositionedCell → Bool) (cs : List PositionedCell) → count_by q (by_column cs) ≡ count_by q cs
count-ordered q [] = refl
count-ordered q (c ∷ cs) = omega (arith, count-with q c (by_column cs), count-ordered q cs, count-cons q c cs)

count-passing : (p q : PositionedCell → Bool) (cs : List PositionedCell) → count_by q (filter p cs) ≡ count_by (λ c. p c && q c) cs
count-passing p q [] = refl
count-passing p q (c ∷ cs) =
    let both = count-cons (λ d. p d && q d) c cs in
    elim (cases_Bool (p c)) [
      | inl t ↦ let b = rw t at both in rw t (omega (arith, count-cons q c (filter p cs), count-passing p q cs, b))
      | inr t ↦ let b = rw t at both in rw t (omega (arith, count-passing p q cs, b))
    ]

pub hanging-counts : (row : ℕ) (above : List PositionedCell) (q : PositionedCell → Bool) →
    count_by q (hanging row above) ≡ count_by (λ c. hangs_into row c && q c) above
hanging-counts row above q =
    count-passing (hangs_into row) q (by_column above) ∙ count-ordered (λ c. hangs_into row c && q c) above
