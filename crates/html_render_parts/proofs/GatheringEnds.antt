-- The recorded ends of rows, with the edges of the cells that hang into them, have all ends of their places.
use Rattle.std.proofs.Common.{◌≡◌, ℕ, ◌+◌, ◌≤◌, List, [], ◌∷◌, ◌++◌, max, map, All, Contains, refl, sym, ap, ◌∙◌, subst, arith, inl, inr}
use Rattle.std.proofs.lemmas.Bool.Decides.{leb_tells}
use Rattle.std.proofs.lemmas.List.Elements.{All-nil, All-cons, All-head, All-tail, All-append, All-weaker, All-filter, All-map, All-contains}
use Rattle.std.proofs.lemmas.List.Elements.{All-contains_itself, Contains-append_cases, Contains-append_left, Contains-append_right}
use Rattle.html_render_parts.specs.declared.table.Span.{Span}
use Rattle.html_render_parts.specs.declared.table.CellKind.TheVariants.{Cell, Placeholder}
use Rattle.html_render_parts.specs.declared.table.placement.Place.{Place}
use Rattle.html_render_parts.specs.declared.table.placement.PositionedCell.{PositionedCell}
use Rattle.html_render_parts.specs.Placement.{bottom_rows, hanging, place_from, due_places, due_end, not_due}
use Rattle.html_render_parts.specs.Positions.{hangs_into, ends, positions_fit}
use Rattle.html_render_parts.specs.Placement.{gap_to, rest_from, row_from, own_from, rising, rows_from}
use Rattle.html_render_parts.specs.PlacementSteps.{IsNextBottom, Placing, displaced_end, due_told, rest_told, row_told}
use Rattle.html_render_parts.specs.Grid.{edges_of}
use Rattle.html_render_parts.proofs.EdgeRanks.{Contains-from_rising, Contains-rising, rising-rising, rising-same}
use Rattle.html_render_parts.proofs.HangingOrder.{All-hanging, All-not_due}
use Rattle.html_render_parts.proofs.NumberTests.{ltb-tells}
use Rattle.html_render_parts.proofs.Vectors.{All-unmap}
use Rattle.html_render_parts.proofs.RowAfterRow.{IsNext, fits-bottom}

All-parts : {X : Type 0} (P : X → Type 0) (xs ys : List X) → All P (xs ++ ys) → All P xs × All P ys
All-parts P [] ys h = (All-nil P, h)
All-parts P (x ∷ xs) ys h = let rest = All-parts P xs ys (All-tail P x (xs ++ ys) h) in (All-cons P x xs (All-head P x (xs ++ ys) h) rest.0, rest.1)

-- whether a cell's own column and its end have a property
abbrev pub Between : (ℕ → Type 0) → PositionedCell → Type 0
Between I c = I c.column × I (c.column + c.span.colspan)

abbrev pub EndsIn : (ℕ → Type 0) → Place → Type 0
EndsIn I p = I p.end

-- ---- if all recorded ends and all edges of hanging cells have a property, all ends have it

-- the end of a placeholder that starts at its cell's own column or after it
hanging-end : (I : ℕ → Type 0) (start : ℕ) (h : PositionedCell) → h.column ≤ start → Between I h → All I (displaced_end start h) →
    I (start + h.span.colspan)
hanging-end I start h le between told = elim (ltb-tells h.column start) [
  | inl t ↦ All-head I (start + h.span.colspan) [] (rw t.0 at told)
  | inr t ↦ let same : h.column ≡ start = omega arith in
      subst (λ x. I (x + h.span.colspan)) same between.1
]

due-ends : (I : ℕ → Type 0) (cursor : ℕ) (hs : List PositionedCell) → All (Between I) hs → All I (due_told cursor hs) →
    All (EndsIn I) (due_places cursor hs)
due-ends I cursor [] b told = All-nil (EndsIn I)
due-ends I cursor (h ∷ hs) b told = elim (leb_tells h.column cursor) [
  | inl t ↦
      let next = cursor + h.span.colspan in
      let parts = All-parts I (displaced_end cursor h) (due_told next hs) (rw t.0 at told) in
      rw t.0 (All-cons (EndsIn I) (place_from Placeholder cursor h.span.colspan) (due_places next hs)
      (hanging-end I cursor h t.1 (All-head (Between I) h hs b) parts.0)
      (due-ends I next hs (All-tail (Between I) h hs b) parts.1))
  | inr t ↦ rw t.0 (All-nil (EndsIn I))
]

gap-ends : (I : ℕ → Type 0) (cursor column : ℕ) → I column → All (EndsIn I) (gap_to cursor column)
gap-ends I cursor column i = elim (ltb-tells cursor column) [
  | inl t ↦ rw t.0 (All-cons (EndsIn I) _ [] i (All-nil (EndsIn I)))
  | inr t ↦ rw t.0 (All-nil (EndsIn I))
]

rest-ends : (I : ℕ → Type 0) (cursor : ℕ) (hs : List PositionedCell) → All (Between I) hs → All I (rest_told cursor hs) →
    All (EndsIn I) (rest_from cursor hs)
rest-ends I cursor [] b told = All-nil (EndsIn I)
rest-ends I cursor (h ∷ hs) b told =
    let column = max cursor h.column in
    let next = column + h.span.colspan in
    let parts = All-parts I (displaced_end column h) (rest_told next hs) told in
    let here = All-head (Between I) h hs b in
    All-append (EndsIn I) (gap_to cursor h.column) (place_from Placeholder column h.span.colspan ∷ rest_from next hs)
    (gap-ends I cursor h.column here.0)
    (All-cons (EndsIn I) (place_from Placeholder column h.span.colspan) (rest_from next hs)
    (hanging-end I column h (omega arith) here parts.0)
    (rest-ends I next hs (All-tail (Between I) h hs b) parts.1))

row-ends : (I : ℕ → Type 0) (cursor : ℕ) (hs : List PositionedCell) (ss : List Span) → All (Between I) hs → All I (row_told cursor hs ss) →
    All (EndsIn I) (row_from cursor hs ss)
row-ends I cursor hs [] b told = rest-ends I cursor hs b told
row-ends I cursor hs (s ∷ ss) b told =
    let column = due_end cursor hs in
    let next = column + s.colspan in
    let left = not_due cursor hs in
    let parts = All-parts I (due_told cursor hs) (next ∷ row_told next left ss) told in
    All-append (EndsIn I) (due_places cursor hs) (place_from Cell column s.colspan ∷ row_from next left ss)
    (due-ends I cursor hs b parts.0)
    (All-cons (EndsIn I) (place_from Cell column s.colspan) (row_from next left ss)
    (All-head I next (row_told next left ss) parts.1)
    (row-ends I next left ss (All-not_due (Between I) cursor hs b) (All-tail I next (row_told next left ss) parts.1)))

-- ---- the recorded ends are ends of places

displaced-told : (J : ℕ → Type 0) (start : ℕ) (h : PositionedCell) → J (start + h.span.colspan) → All J (displaced_end start h)
displaced-told J start h j = elim (ltb-tells h.column start) [
  | inl t ↦ rw t.0 (All-cons J (start + h.span.colspan) [] j (All-nil J))
  | inr t ↦ rw t.0 (All-nil J)
]

due-told : (J : ℕ → Type 0) (cursor : ℕ) (hs : List PositionedCell) → All (EndsIn J) (due_places cursor hs) → All J (due_told cursor hs)
due-told J cursor [] e = All-nil J
due-told J cursor (h ∷ hs) e = elim (leb_tells h.column cursor) [
  | inl t ↦
      let next = cursor + h.span.colspan in
      let here = rw t.0 at e in
      rw t.0 (All-append J (displaced_end cursor h) (due_told next hs)
      (displaced-told J cursor h (All-head (EndsIn J) (place_from Placeholder cursor h.span.colspan) (due_places next hs) here))
      (due-told J next hs (All-tail (EndsIn J) (place_from Placeholder cursor h.span.colspan) (due_places next hs) here)))
  | inr t ↦ rw t.0 (All-nil J)
]

rest-told : (J : ℕ → Type 0) (cursor : ℕ) (hs : List PositionedCell) → All (EndsIn J) (rest_from cursor hs) → All J (rest_told cursor hs)
rest-told J cursor [] e = All-nil J
rest-told J cursor (h ∷ hs) e =
    let column = max cursor h.column in
    let next = column + h.span.colspan in
    let p = place_from Placeholder column h.span.colspan in
    let parts = All-parts (EndsIn J) (gap_to cursor h.column) (p ∷ rest_from next hs) e in
    All-append J (displaced_end column h) (rest_told next hs)
    (displaced-told J column h (All-head (EndsIn J) p (rest_from next hs) parts.1))
    (rest-told J next hs (All-tail (EndsIn J) p (rest_from next hs) parts.1))

row-told : (J : ℕ → Type 0) (cursor : ℕ) (hs : List PositionedCell) (ss : List Span) → All (EndsIn J) (row_from cursor hs ss) →
    All J (row_told cursor hs ss)
row-told J cursor hs [] e = rest-told J cursor hs e
row-told J cursor hs (s ∷ ss) e =
    let column = due_end cursor hs in
    let next = column + s.colspan in
    let left = not_due cursor hs in
    let p = place_from Cell column s.colspan in
    let parts = All-parts (EndsIn J) (due_places cursor hs) (p ∷ row_from next left ss) e in
    All-append J (due_told cursor hs) (next ∷ row_told next left ss)
    (due-told J cursor hs parts.0)
    (All-cons J next (row_told next left ss) (All-head (EndsIn J) p (row_from next left ss) parts.1)
    (row-told J next left ss (All-tail (EndsIn J) p (row_from next left ss) parts.1)))

-- ---- a row's own cells begin and end at ends of its places

due_end-in : (I : ℕ → Type 0) (cursor : ℕ) (hs : List PositionedCell) → I cursor → All (EndsIn I) (due_places cursor hs) → I (due_end cursor hs)
due_end-in I cursor [] i e = i
due_end-in I cursor (h ∷ hs) i e = elim (leb_tells h.column cursor) [
  | inl t ↦
      let next = cursor + h.span.colspan in
      let p = place_from Placeholder cursor h.span.colspan in
      let here = rw t.0 at e in
      rw t.0 (due_end-in I next hs (All-head (EndsIn I) p (due_places next hs) here) (All-tail (EndsIn I) p (due_places next hs) here))
  | inr t ↦ rw t.0 i
]

pub own-between : (I : ℕ → Type 0) (row cursor : ℕ) (hs : List PositionedCell) (ss : List Span) → I cursor →
    All (EndsIn I) (row_from cursor hs ss)
    → All (Between I) (own_from row cursor hs ss)
own-between I row cursor hs [] i e = All-nil (Between I)
own-between I row cursor hs (s ∷ ss) i e =
    let column = due_end cursor hs in
    let next = column + s.colspan in
    let left = not_due cursor hs in
    let p = place_from Cell column s.colspan in
    let parts = All-parts (EndsIn I) (due_places cursor hs) (p ∷ row_from next left ss) e in
    let end = All-head (EndsIn I) p (row_from next left ss) parts.1 in
    All-cons (Between I) (record { row = row; column = column; span = s }) (own_from row next left ss)
    (due_end-in I cursor hs i parts.0, end)
    (own-between I row next left ss end (All-tail (EndsIn I) p (row_from next left ss) parts.1))

-- ---- the edges that are gathered

-- whether the gathered positions, with the ends of the rows that aren't placed yet, are the edges of all rows
pub record IsGathered (rows ahead : List (List Place)) (hung : List PositionedCell) (positions : List ℕ) : Type 0 where
  pub fits : positions_fit rows ≡ positions_fit ahead
  pub edges : rising (positions ++ ends ahead) ≡ edges_of rows
  pub in_order : rising positions ≡ positions
  pub zero : Contains positions 0
  pub between : All (Between (Contains positions)) hung

-- gathering the recorded ends of a row is gathering all its ends
gathered-row : (positions told : List ℕ) (row : List Place) (more : List (List Place)) → All (Contains (map (λ p. p.end) row)) told →
    All (EndsIn (Contains (rising (positions ++ told)))) row
    → rising (rising (positions ++ told) ++ ends more) ≡ rising (positions ++ ends (row ∷ more))
gathered-row positions told row more here all =
    let new = rising (positions ++ told) in
    let own = map (λ p. p.end) row in
    rising-same (new ++ ends more) (positions ++ (own ++ ends more))
    (λ n a. elim (Contains-append_cases new (ends more) n a) [
      | inl b ↦ elim (Contains-append_cases positions told n (Contains-from_rising n (positions ++ told) b)) [
        | inl d ↦ Contains-append_left positions (own ++ ends more) n d
        | inr d ↦ Contains-append_right positions (own ++ ends more) n
            (Contains-append_left own (ends more) n (All-contains (Contains own) told n here d))
      ]
      | inr b ↦ Contains-append_right positions (own ++ ends more) n (Contains-append_right own (ends more) n b)
    ])
    (λ n a. elim (Contains-append_cases positions (own ++ ends more) n a) [
      | inl b ↦ Contains-append_left new (ends more) n
          (Contains-rising n (positions ++ told) (Contains-append_left positions told n b))
      | inr b ↦ elim (Contains-append_cases own (ends more) n b) [
        | inl d ↦ Contains-append_left new (ends more) n (All-contains (Contains new) own n (All-map (Contains new) (λ p. p.end) row all) d)
        | inr d ↦ Contains-append_right new (ends more) n d
      ]
    ])

abbrev with_told : List ℕ → List ℕ → List ℕ
with_told positions told = rising (positions ++ told)

-- gathered positions remain gathered
still : (positions told : List ℕ) (n : ℕ) → Contains positions n → Contains (with_told positions told) n
still positions told n a = Contains-rising n (positions ++ told) (Contains-append_left positions told n a)

still-between : (positions told : List ℕ) (cs : List PositionedCell) → All (Between (Contains positions)) cs →
    All (Between (Contains (with_told positions told))) cs
still-between positions told cs h =
    All-weaker (Between (Contains positions)) (Between (Contains (with_told positions told)))
    (λ c b. (still positions told c.column b.0, still positions told (c.column + c.span.colspan) b.1)) cs h

told-gathered : (positions told : List ℕ) → All (Contains (with_told positions told)) told
told-gathered positions told =
    All-weaker (Contains told) (Contains (with_told positions told))
    (λ n a. Contains-rising n (positions ++ told) (Contains-append_right positions told n a)) told (All-contains_itself told)

ends-themselves : (row : List Place) → All (EndsIn (Contains (map (λ p. p.end) row))) row
ends-themselves row = All-unmap (Contains (map (λ p. p.end) row)) (λ (p : Place). p.end) row (All-contains_itself (map (λ p. p.end) row))

pub gathered-next : (rows : List (List Place)) (row : ℕ) (cells : List Span) (more : List (List Span)) (done next : Placing)
    (positions : List ℕ) → IsNext row cells done next
    → IsGathered rows (rows_from row done.hanging (cells ∷ more)) done.hanging positions →
    IsGathered rows (rows_from (row + 1) next.hanging more) next.hanging (rising (positions ++ next.told))
gathered-next rows row cells more done next positions is g =
    let hung = done.hanging in
    let told = row_told 0 hung cells in
    let I = Contains (with_told positions told) in
    let between = still-between positions told hung g.between in
    let all = row-ends I 0 hung cells between (told-gathered positions told) in
    let zero = still positions told 0 g.zero in
    let here = row-told (Contains (map (λ p. p.end) (row_from 0 hung cells))) 0 hung cells (ends-themselves (row_from 0 hung cells)) in
    let own = own-between I row 0 hung cells zero all in
    rw (is.told, is.hangs_on) (record {
      fits = g.fits ∙ rw is.fits refl;
      edges = gathered-row positions told (row_from 0 hung cells)
          (rows_from (row + 1) (hanging (row + 1) (hung ++ own_from row 0 hung cells)) more) here all ∙ g.edges;
      in_order = rising-rising (positions ++ told);
      zero = zero;
      between = All-hanging (Between I) (row + 1) (hung ++ own_from row 0 hung cells)
          (All-append (Between I) hung (own_from row 0 hung cells) between own);
    })

pub gathered-bottom : (rows : List (List Place)) (done next : Placing) (positions : List ℕ) → IsNextBottom done next →
    IsGathered rows (bottom_rows done.hanging) done.hanging positions
    → IsGathered rows (bottom_rows next.hanging) next.hanging (rising (positions ++ next.told))
gathered-bottom rows done next positions is g =
    let hung = done.hanging in
    let told = rest_told 0 hung in
    let I = Contains (with_told positions told) in
    let between = still-between positions told hung g.between in
    let all = rest-ends I 0 hung between (told-gathered positions told) in
    let here = rest-told (Contains (map (λ p. p.end) (rest_from 0 hung))) 0 hung (ends-themselves (rest_from 0 hung)) in
    let rows_are : bottom_rows hung ≡ rest_from 0 hung ∷ bottom_rows next.hanging =
    is.rows ∙ ap (λ r. r ∷ bottom_rows next.hanging) is.places in
    rw is.told (record {
      fits = g.fits ∙ fits-bottom done next is;
      edges = gathered-row positions told (rest_from 0 hung) (bottom_rows next.hanging) here all
          ∙ ap (λ r. rising (positions ++ ends r)) (sym rows_are) ∙ g.edges;
      in_order = rising-rising (positions ++ told);
      zero = still positions told 0 g.zero;
      between = rw is.hangs_on (All-filter (hangs_into is.row_end) (Between I) hung between);
    })
