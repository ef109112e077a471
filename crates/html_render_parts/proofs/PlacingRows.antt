-- A row placed from the left, step by step, is the row of the definition.
use Rattle.std.proofs.Common.{◌≡◌, ℕ, ◌+◌, ◌^◌, true, false, List, [], ◌∷◌, ◌++◌, Option, Some, None, MatchOption, max, filter, nat_lt, nat_le, refl, ap}
use Rattle.std.proofs.Common.{◌∙◌, subst, arith, append_assoc, inl, inr}
use Rattle.std.specs.Option.{option_and_then}
use Rattle.std.proofs.lemmas.Bool.{cases_Bool}
use Rattle.std.proofs.lemmas.List.{append-nil}
use Rattle.std.proofs.lemmas.List.Elements.{filter-append}
use Rattle.std.proofs.lemmas.List.Folds.{list_all-append}
use Rattle.html_render_dom_values.specs.declared.errors.Error.{Error}
use Rattle.html_render_dom_values.specs.declared.errors.Error.TheVariants.{TooNarrow, Fail, OutOfMemory}
use Rattle.html_render_parts.specs.declared.table.Span.{Span}
use Rattle.html_render_parts.specs.declared.table.CellKind.{CellKind}
use Rattle.html_render_parts.specs.declared.table.CellKind.TheVariants.{Cell, Placeholder, Gap}
use Rattle.html_render_parts.specs.declared.table.placement.PositionedCell.{PositionedCell}
use Rattle.html_render_parts.specs.Placement.{due_places, due_end, not_due, gap_to, rest_from, row_from, own_from}
use Rattle.html_render_parts.specs.Positions.{hangs_into}
use Rattle.html_render_parts.specs.PlacementSteps.{RowSoFar, empty_row, put_to, telling_end, owning, keeping, with_hanging, with_due, with_own}
use Rattle.html_render_parts.specs.PlacementSteps.{with_gap, with_rest, with_row, displaced_end, due_told, rest_told, row_told, IsByColumn}
use Rattle.html_render_parts.specs.PlacementSteps.{Placing, row_fits, with_next_row}
use Rattle.html_render_parts.specs.Refusal.{Fails}
use Rattle.html_render_parts.proofs.HangingOrder.{due_taken, in_row, hanging-next, IsByColumn-hanging}
use Rattle.html_render_parts.proofs.NumberTests.{ltb-tells}

-- ---- additions of steps to a row under construction

-- a row with an addition after it; of the cells kept by the addition, those that hang into the next row remain
abbrev with_added : ℕ → RowSoFar → RowSoFar → RowSoFar
with_added row built added = record {
  places = built.places ++ added.places;
  own = built.own ++ added.own;
  told = built.told ++ added.told;
  kept = built.kept ++ filter (hangs_into (row + 1)) added.kept;
  cursor = added.cursor;
}

-- an addition followed by another one
abbrev then : RowSoFar → RowSoFar → RowSoFar
then a b = record {
  places = a.places ++ b.places;
  own = a.own ++ b.own;
  told = a.told ++ b.told;
  kept = a.kept ++ b.kept;
  cursor = b.cursor;
}

-- whether a step's result `o` is the row with this addition, or `None` if the addition's places don't fit
abbrev Gives : ℕ → RowSoFar → RowSoFar → Option RowSoFar → Type 0
Gives row built added o = MatchOption o (row_fits added.places ≡ false) (λ l. (l ≡ with_added row built added) × (row_fits added.places ≡ true))

-- a step after another begins at the cursor where that one ends
Gives-then : (row : ℕ) (built a : RowSoFar) (b : ℕ → RowSoFar) (o : Option RowSoFar) (f : RowSoFar → Option RowSoFar) →
    Gives row built a o → ((l : RowSoFar) → Gives row l (b l.cursor) (f l)) →
    Gives row built (then a (b a.cursor)) (option_and_then f o)
Gives-then row built a b None f h g = rw (list_all-append, h) refl
Gives-then row built a b (Some l) f h g = by (f l) (subst (λ x. Gives row x (b x.cursor) (f l)) h.0 (g l))
  where
    by : (o : Option RowSoFar) → Gives row (with_added row built a) (b a.cursor) o → Gives row built (then a (b a.cursor)) o
    by None k = rw (list_all-append, h.1, k) refl
    by (Some m) k = (k.0 ∙ simp (append_assoc, filter-append), rw (list_all-append, h.1, k.1) refl)

-- the empty addition
abbrev none_at : ℕ → RowSoFar
none_at c = record { places = []; own = []; told = []; kept = []; cursor = c }

abbrev one_place : CellKind → ℕ → ℕ → RowSoFar
one_place kind start end = record (none_at end) { places = (record { kind = kind; start = start; end = end }) ∷ [] }

Gives-same : (row : ℕ) (built : RowSoFar) → Gives row built (none_at built.cursor) (Some built)
Gives-same row built = (simp append-nil, refl)

put_to-gives : (row : ℕ) (kind : CellKind) (end : ℕ) (built : RowSoFar) → Gives row built (one_place kind built.cursor end) (put_to kind end built)
put_to-gives row kind end built = elim (cases_Bool (nat_lt end (2 ^ 128))) [
  | inl e ↦ rw e (simp append-nil, refl)
  | inr e ↦ rw e refl
]

-- ---- one cell

abbrev placeholder : PositionedCell → ℕ → RowSoFar
placeholder h cursor = record (one_place Placeholder cursor (cursor + h.span.colspan)) { told = displaced_end cursor h }

with_hanging-gives : (row : ℕ) (h : PositionedCell) (built : RowSoFar) → Gives row built (placeholder h built.cursor) (with_hanging h built)
with_hanging-gives row h built =
    let end = built.cursor + h.span.colspan in
    let put = put_to-gives row Placeholder end built in
    elim (cases_Bool (nat_lt h.column built.cursor)) [
      | inl e ↦ rw e (Gives-then row built (one_place Placeholder built.cursor end) (λ x. record (none_at x) { told = x ∷ [] })
          (put_to Placeholder end built) (λ l. Some (telling_end l)) put (λ l. (simp append-nil, refl)))
      | inr e ↦ rw e (Gives-then row built (one_place Placeholder built.cursor end) none_at (put_to Placeholder end built) (λ l. Some l) put
          (Gives-same row))
    ]

abbrev own_cell : ℕ → Span → ℕ → RowSoFar
own_cell row s cursor =
    let c : PositionedCell = record { row = row; column = cursor; span = s } in
    let end = cursor + s.colspan in
    record (one_place Cell cursor end) { own = c ∷ []; told = end ∷ []; kept = c ∷ [] }

with_own-gives : (row : ℕ) (s : Span) (built : RowSoFar) → Gives row built (own_cell row s built.cursor) (with_own row s built)
with_own-gives row s built =
    let c : PositionedCell = record { row = row; column = built.cursor; span = s } in
    let end = built.cursor + s.colspan in
    Gives-then row built (one_place Cell built.cursor end) (λ x. record (none_at x) { own = c ∷ []; told = x ∷ []; kept = c ∷ [] })
    (put_to Cell end built) (λ l. Some (keeping row (c ∷ []) (owning c (telling_end l)))) (put_to-gives row Cell end built)
    (λ l. (simp append-nil, refl))

abbrev gap : ℕ → ℕ → RowSoFar
gap column cursor = record (none_at (max cursor column)) { places = gap_to cursor column }

with_gap-gives : (row : ℕ) (column : ℕ) (built : RowSoFar) → Gives row built (gap column built.cursor) (with_gap column built)
with_gap-gives row column built = elim (ltb-tells built.cursor column) [
  | inl t ↦ (let e : max built.cursor column ≡ column = omega arith in rw (t.0, e) (put_to-gives row Gap column built))
  | inr t ↦ (let e : max built.cursor column ≡ built.cursor = omega arith in rw (t.0, e) (Gives-same row built))
]

-- ---- the placeholders that are due, and those after the row's own cells

abbrev due : List PositionedCell → ℕ → RowSoFar
due hs cursor = record {
  places = due_places cursor hs;
  own = [];
  told = due_told cursor hs;
  kept = due_taken cursor hs;
  cursor = due_end cursor hs;
}

with_due-gives : (row : ℕ) (hs : List PositionedCell) (built : RowSoFar) → Gives row built (due hs built.cursor) (with_due row hs built)
with_due-gives row [] built = Gives-same row built
with_due-gives row (h ∷ hs) built = elim (cases_Bool (nat_le h.column built.cursor)) [
  | inl e ↦
      rw e (Gives-then row built (placeholder h built.cursor) (λ x. then (record (none_at x) { kept = h ∷ [] }) (due hs x))
      (with_hanging h built) (λ l. with_due row hs (keeping row (h ∷ []) l)) (with_hanging-gives row h built)
      (λ l. Gives-then row l (record (none_at l.cursor) { kept = h ∷ [] }) (due hs) (Some (keeping row (h ∷ []) l)) (with_due row hs)
      (simp append-nil, refl) (with_due-gives row hs)))
  | inr e ↦ rw e (Gives-same row built)
]

-- the cursor after the placeholders that follow the row's own cells
abbrev rest_end : ℕ → List PositionedCell → ℕ
rest_end cursor [] = cursor
rest_end cursor (h ∷ hs) = rest_end (max cursor h.column + h.span.colspan) hs

abbrev rest : List PositionedCell → ℕ → RowSoFar
rest hs cursor = record { places = rest_from cursor hs; own = []; told = rest_told cursor hs; kept = []; cursor = rest_end cursor hs }

with_rest-gives : (row : ℕ) (hs : List PositionedCell) (built : RowSoFar) → Gives row built (rest hs built.cursor) (with_rest hs built)
with_rest-gives row [] built = Gives-same row built
with_rest-gives row (h ∷ hs) built =
    Gives-then row built (gap h.column built.cursor) (λ x. then (placeholder h x) (rest hs (x + h.span.colspan))) (with_gap h.column built)
    (λ l. option_and_then (with_rest hs) (with_hanging h l)) (with_gap-gives row h.column built)
    (λ l. Gives-then row l (placeholder h l.cursor) (rest hs) (with_hanging h l) (with_rest hs) (with_hanging-gives row h l)
    (with_rest-gives row hs))

-- ---- the row

-- the cursor after a row
abbrev row_end : ℕ → List PositionedCell → List Span → ℕ
row_end cursor hs [] = rest_end cursor hs
row_end cursor hs (s ∷ ss) = row_end (due_end cursor hs + s.colspan) (not_due cursor hs) ss

abbrev whole : ℕ → List PositionedCell → List Span → ℕ → RowSoFar
whole row hs ss cursor = record {
  places = row_from cursor hs ss;
  own = own_from row cursor hs ss;
  told = row_told cursor hs ss;
  kept = in_row row cursor hs ss;
  cursor = row_end cursor hs ss;
}

with_row-gives : (row : ℕ) (ss : List Span) (hs : List PositionedCell) (built : RowSoFar) →
    Gives row built (whole row hs ss built.cursor) (with_row row ss hs built)
with_row-gives row [] hs built =
    simp append-nil (simp append-nil at (Gives-then row built (rest hs built.cursor) (λ x. record (none_at x) { kept = hs }) (with_rest hs built)
    (λ l. Some (keeping row hs l)) (with_rest-gives row hs built) (λ l. (simp append-nil, refl))))
with_row-gives row (s ∷ ss) hs built =
    let left = not_due built.cursor hs in
    Gives-then row built (due hs built.cursor) (λ x. then (own_cell row s x) (whole row left ss (x + s.colspan))) (with_due row hs built)
    (λ l. option_and_then (with_row row ss left) (with_own row s l)) (with_due-gives row hs built)
    (λ l. Gives-then row l (own_cell row s l.cursor) (whole row left ss) (with_own row s l) (with_row row ss left) (with_own-gives row s l)
    (with_row-gives row ss left))

-- ---- rows that fit

row-gives : (row : ℕ) (ss : List Span) (hung : List PositionedCell) (o : Option RowSoFar) → with_row row ss hung empty_row ≡ o →
    Gives row empty_row (whole row hung ss 0) o
row-gives row ss hung o e = subst (Gives row empty_row (whole row hung ss 0)) e (with_row-gives row ss hung empty_row)

-- a placed row is the definition's next row
pub next-made : (row : ℕ) (ss : List Span) (done : Placing) (hung : List PositionedCell) (l : RowSoFar) → done.hanging ≡ hung →
    IsByColumn hung
    → with_row row ss hung empty_row ≡ Some l →
    with_next_row row ss done ≡ Some (record { places = l.places; own = l.own; told = l.told; hanging = l.kept })
next-made row ss done hung l same ordered e = let h = row-gives row ss hung (Some l) e in rw (same, h.1, h.0, hanging-next row hung ss ordered) refl

-- the cells that a placed row keeps are in order of own column
pub kept-ordered : (row : ℕ) (ss : List Span) (hung : List PositionedCell) (l : RowSoFar) → IsByColumn hung →
    with_row row ss hung empty_row ≡ Some l → IsByColumn l.kept
kept-ordered row ss hung l ordered e =
    rw ((row-gives row ss hung (Some l) e).0, hanging-next row hung ss ordered) (IsByColumn-hanging (row + 1) (hung ++ own_from row 0 hung ss))

-- an error of placing a row is one of the definition
pub next-refused : (e : Error) (row : ℕ) (ss : List Span) (done : Placing) (hung : List PositionedCell) → done.hanging ≡ hung →
    Fails e (with_row row ss hung empty_row)
    → Fails e (with_next_row row ss done)
next-refused TooNarrow row ss done hung same h = h
next-refused OutOfMemory row ss done hung same h = tt
next-refused Fail row ss done hung same h = rw (same, row-gives row ss hung None h) refl

-- a row below the last one adds the placeholders of the cells that hang there
bottom-gives : (hung : List PositionedCell) (o : Option RowSoFar) → with_rest hung empty_row ≡ o → Gives 0 empty_row (rest hung 0) o
bottom-gives hung o e = subst (Gives 0 empty_row (rest hung 0)) e (with_rest-gives 0 hung empty_row)

pub bottom-made : (hung : List PositionedCell) (l : RowSoFar) → with_rest hung empty_row ≡ Some l →
    (l.places ≡ rest_from 0 hung) × (l.told ≡ rest_told 0 hung) × (row_fits l.places ≡ true)
bottom-made hung l e = let h = bottom-gives hung (Some l) e in (ap (λ r. r.places) h.0, ap (λ r. r.told) h.0, rw h.0 h.1)

pub bottom-past : (hung : List PositionedCell) → with_rest hung empty_row ≡ None → row_fits (rest_from 0 hung) ≡ false
bottom-past hung e = bottom-gives hung None e
