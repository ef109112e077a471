-- The cells that a row keeps, in the order of their placement, are those that hang into the next row, in order of own
-- column.
use Rattle.std.proofs.Common.{All, ◌≡◌, ℕ, ◌+◌, ◌<◌, ◌≤◌, Bool, true, false, cond, List, [], ◌∷◌, ◌++◌, filter, nat_le, refl, sym, ap, ◌∙◌, arith, inl, inr}
use Rattle.std.proofs.lemmas.Bool.{cases_Bool}
use Rattle.std.proofs.lemmas.Bool.Decides.{leb_tells, nat_tests}
use Rattle.std.proofs.lemmas.List.{append-nil}
use Rattle.std.proofs.lemmas.List.Elements.{All-cons, All-head, All-tail, All-filter}
use Rattle.html_render_parts.specs.declared.table.Span.{Span}
use Rattle.html_render_parts.specs.declared.table.placement.PositionedCell.{PositionedCell}
use Rattle.html_render_parts.specs.Placement.{by_column_with, by_column, hanging, due_end, not_due, own_from}
use Rattle.html_render_parts.specs.Positions.{hangs_into}
use Rattle.html_render_parts.specs.PlacementSteps.{AllFrom, IsByColumn, RowSoFar, keeping}
use Rattle.html_render_parts.proofs.NumberTests.{ltb-tells}

-- ---- two lists merged by own column: of equal ones, that of the first list precedes

abbrev pub merged_with : PositionedCell → (List PositionedCell → List PositionedCell) → List PositionedCell → List PositionedCell
merged_with s rest [] = s ∷ rest []
merged_with s rest (o ∷ os) = cond (nat_le s.column o.column) (s ∷ rest (o ∷ os)) (o ∷ merged_with s rest os)

abbrev pub merged : List PositionedCell → List PositionedCell → List PositionedCell
merged [] os = os
merged (s ∷ ss) os = merged_with s (merged ss) os

merged-nil : (ss : List PositionedCell) → merged ss [] ≡ ss
merged-nil [] = refl
merged-nil (s ∷ ss) = ap (λ r. s ∷ r) (merged-nil ss)

-- inserting a cell by column is merging it alone
with-alone : (a : PositionedCell) (os : List PositionedCell) → by_column_with a os ≡ merged (a ∷ []) os
with-alone a [] = refl
with-alone a (o ∷ os) = ap (λ r. cond (nat_le a.column o.column) (a ∷ o ∷ os) (o ∷ r)) (with-alone a os)

-- inserting a cell in a merged list, if its column is at most the first one's
with-before : (a s : PositionedCell) (ss : List PositionedCell) → (nat_le a.column s.column ≡ true) → a.column ≤ s.column → (os : List PositionedCell) →
    by_column_with a (merged (s ∷ ss) os) ≡ merged (a ∷ s ∷ ss) os
with-before a s ss e le [] = rw e refl
with-before a s ss e le (o ∷ os) = let ih = with-before a s ss e le os in grind (arith, nat_tests)

-- inserting a cell in a merged list, if its column is above the first one's
with-behind : (a s : PositionedCell) (ss : List PositionedCell) → (nat_le a.column s.column ≡ false) → s.column < a.column →
    ((os : List PositionedCell) → by_column_with a (merged ss os) ≡ merged (by_column_with a ss) os)
    → (os : List PositionedCell) → by_column_with a (merged (s ∷ ss) os) ≡ merged (s ∷ by_column_with a ss) os
with-behind a s ss e less ih [] = rw e (ap (λ r. s ∷ r) (ih []))
with-behind a s ss e less ih (o ∷ os) = let more = with-behind a s ss e less ih os in let here = ih (o ∷ os) in grind (arith, nat_tests)

with-merged : (a : PositionedCell) (ss os : List PositionedCell) → by_column_with a (merged ss os) ≡ merged (by_column_with a ss) os
with-merged a [] os = with-alone a os
with-merged a (s ∷ ss) os = elim (leb_tells a.column s.column) [
  | inl t ↦ with-before a s ss t.0 t.1 os ∙ sym (rw t.0 refl)
  | inr t ↦ with-behind a s ss t.0 t.1 (with-merged a ss) os ∙ sym (rw t.0 refl)
]

pub by_column-append : (xs os : List PositionedCell) → by_column os ≡ os → by_column (xs ++ os) ≡ merged (by_column xs) os
by_column-append [] os e = e
by_column-append (x ∷ xs) os e = ap (by_column_with x) (by_column-append xs os e) ∙ with-merged x (by_column xs) os

-- ---- order

pub AllFrom-less : (m n : ℕ) (cs : List PositionedCell) → m ≤ n → AllFrom n cs → AllFrom m cs
AllFrom-less m n [] le h = tt
AllFrom-less m n (c ∷ cs) le h = (let k = h.0 in omega arith, AllFrom-less m n cs le h.1)

AllFrom-with : (n : ℕ) (a : PositionedCell) (cs : List PositionedCell) → n ≤ a.column → AllFrom n cs → AllFrom n (by_column_with a cs)
AllFrom-with n a [] le h = (le, tt)
AllFrom-with n a (c ∷ cs) le h = let more = AllFrom-with n a cs le h.1 in grind (arith, nat_tests)

IsByColumn-with : (a : PositionedCell) (cs : List PositionedCell) → IsByColumn cs → IsByColumn (by_column_with a cs)
IsByColumn-with a [] h = (tt, tt)
IsByColumn-with a (c ∷ cs) h =
    let more = IsByColumn-with a cs h.1 in
    let from = AllFrom-with c.column a cs in
    let less = AllFrom-less a.column c.column cs in
    grind (arith, nat_tests)

pub IsByColumn-by_column : (xs : List PositionedCell) → IsByColumn (by_column xs)
IsByColumn-by_column [] = tt
IsByColumn-by_column (x ∷ xs) = IsByColumn-with x (by_column xs) (IsByColumn-by_column xs)

pub by_column_with-front : (a : PositionedCell) (cs : List PositionedCell) → AllFrom a.column cs → by_column_with a cs ≡ a ∷ cs
by_column_with-front a [] h = refl
by_column_with-front a (c ∷ cs) h = let k = h.0 in grind (arith, nat_tests)

-- sorting cells in order changes nothing
pub by_column-same : (cs : List PositionedCell) → IsByColumn cs → by_column cs ≡ cs
by_column-same [] h = refl
by_column-same (c ∷ cs) h = ap (by_column_with c) (by_column-same cs h.1) ∙ by_column_with-front c cs h.0

pub AllFrom-filter : (p : PositionedCell → Bool) (n : ℕ) (cs : List PositionedCell) → AllFrom n cs → AllFrom n (filter p cs)
AllFrom-filter p n [] h = tt
AllFrom-filter p n (c ∷ cs) h = elim (cases_Bool (p c)) [
  | inl e ↦ rw e (h.0, AllFrom-filter p n cs h.1)
  | inr e ↦ rw e (AllFrom-filter p n cs h.1)
]

-- filtered cells in order are in order
pub IsByColumn-filter : (p : PositionedCell → Bool) (cs : List PositionedCell) → IsByColumn cs → IsByColumn (filter p cs)
IsByColumn-filter p [] h = tt
IsByColumn-filter p (c ∷ cs) h = elim (cases_Bool (p c)) [
  | inl e ↦ rw e (AllFrom-filter p c.column cs h.0, IsByColumn-filter p cs h.1)
  | inr e ↦ rw e (IsByColumn-filter p cs h.1)
]

-- cells that hang into a row are in order
pub IsByColumn-hanging : (row : ℕ) (cs : List PositionedCell) → IsByColumn (hanging row cs)
IsByColumn-hanging row cs = IsByColumn-filter (hangs_into row) (by_column cs) (IsByColumn-by_column cs)

-- ---- a property of all cells is one of the cells that aren't due, and of those that hang into the next row

pub All-not_due : (P : PositionedCell → Type 0) (cursor : ℕ) (hs : List PositionedCell) → All P hs → All P (not_due cursor hs)
All-not_due P cursor [] w = w
All-not_due P cursor (h ∷ hs) w = elim (leb_tells h.column cursor) [
  | inl t ↦ rw t.0 (All-not_due P (cursor + h.span.colspan) hs (All-tail P h hs w))
  | inr t ↦ rw t.0 w
]

All-by_column_with : (P : PositionedCell → Type 0) (c : PositionedCell) (cs : List PositionedCell) → P c → All P cs → All P (by_column_with c cs)
All-by_column_with P c [] w h = All-cons P c [] w h
All-by_column_with P c (d ∷ ds) w h = elim (leb_tells c.column d.column) [
  | inl t ↦ rw t.0 (All-cons P c (d ∷ ds) w h)
  | inr t ↦ rw t.0 (All-cons P d (by_column_with c ds) (All-head P d ds h) (All-by_column_with P c ds w (All-tail P d ds h)))
]

All-by_column : (P : PositionedCell → Type 0) (cs : List PositionedCell) → All P cs → All P (by_column cs)
All-by_column P [] h = h
All-by_column P (c ∷ cs) h = All-by_column_with P c (by_column cs) (All-head P c cs h) (All-by_column P cs (All-tail P c cs h))

pub All-hanging : (P : PositionedCell → Type 0) (row : ℕ) (cs : List PositionedCell) → All P cs → All P (hanging row cs)
All-hanging P row cs h = All-filter (hangs_into row) P (by_column cs) (All-by_column P cs h)

-- ---- one row

-- hanging cells that are due
abbrev pub due_taken : ℕ → List PositionedCell → List PositionedCell
due_taken cursor [] = []
due_taken cursor (h ∷ hs) = cond (nat_le h.column cursor) (h ∷ due_taken (cursor + h.span.colspan) hs) []

-- a row's own cells and those that hang into it, in the order of their placement
abbrev pub in_row : ℕ → ℕ → List PositionedCell → List Span → List PositionedCell
in_row row cursor hs [] = hs
in_row row cursor hs (s ∷ ss) =
    let column = due_end cursor hs in
    due_taken cursor hs ++ (record { row = row; column = column; span = s }) ∷ in_row row (column + s.colspan) (not_due cursor hs) ss

due_end-from : (cursor : ℕ) (hs : List PositionedCell) → cursor ≤ due_end cursor hs
due_end-from cursor [] = omega arith
due_end-from cursor (h ∷ hs) = let more = due_end-from (cursor + h.span.colspan) hs in grind (arith, nat_tests)

merged-due : (cursor : ℕ) (hs : List PositionedCell) (o : PositionedCell) (os : List PositionedCell) → o.column ≡ due_end cursor hs →
    merged hs (o ∷ os) ≡ due_taken cursor hs ++ o ∷ merged (not_due cursor hs) os
merged-due cursor [] o os e = refl
merged-due cursor (h ∷ hs) o os e =
    let from = due_end-from (cursor + h.span.colspan) hs in
    let more = merged-due (cursor + h.span.colspan) hs o os in
    grind (arith, nat_tests)

in_row-merged : (row cursor : ℕ) (hs : List PositionedCell) (ss : List Span) → in_row row cursor hs ss ≡ merged hs (own_from row cursor hs ss)
in_row-merged row cursor hs [] = sym (merged-nil hs)
in_row-merged row cursor hs (s ∷ ss) =
    let column = due_end cursor hs in
    let o : PositionedCell = record { row = row; column = column; span = s } in
    ap (λ r. due_taken cursor hs ++ o ∷ r) (in_row-merged row (column + s.colspan) (not_due cursor hs) ss)
    ∙ sym (merged-due cursor hs o (own_from row (column + s.colspan) (not_due cursor hs) ss) refl)

-- ---- a row's own cells are in order

own-from : (row cursor : ℕ) (hs : List PositionedCell) (ss : List Span) → AllFrom cursor (own_from row cursor hs ss)
own-from row cursor hs [] = tt
own-from row cursor hs (s ∷ ss) =
    let k = due_end-from cursor hs in (
      k,
      AllFrom-less cursor (due_end cursor hs + s.colspan) _ (omega arith)
          (own-from row (due_end cursor hs + s.colspan) (not_due cursor hs) ss),
    )

pub by_column-own : (row cursor : ℕ) (hs : List PositionedCell) (ss : List Span) → by_column (own_from row cursor hs ss) ≡ own_from row cursor hs ss
by_column-own row cursor hs [] = refl
by_column-own row cursor hs (s ∷ ss) =
    let column = due_end cursor hs in
    let o : PositionedCell = record { row = row; column = column; span = s } in
    let os = own_from row (column + s.colspan) (not_due cursor hs) ss in
    ap (by_column_with o) (by_column-own row (column + s.colspan) (not_due cursor hs) ss)
    ∙ by_column_with-front o os
    (AllFrom-less column (column + s.colspan) os (omega arith) (own-from row (column + s.colspan) (not_due cursor hs) ss))

-- ---- from row to row

-- of the cells that hang into a row and its own cells, it keeps for the next row those that hang into that, in order
pub hanging-next : (row : ℕ) (hung : List PositionedCell) (ss : List Span) → IsByColumn hung →
    filter (hangs_into (row + 1)) (in_row row 0 hung ss) ≡ hanging (row + 1) (hung ++ own_from row 0 hung ss)
hanging-next row hung ss ordered =
    let own = own_from row 0 hung ss in
    let joined : by_column (hung ++ own) ≡ merged hung own = by_column-append hung own (by_column-own row 0 hung ss)
    ∙ ap (λ hs. merged hs own) (by_column-same hung ordered) in
    ap (filter (hangs_into (row + 1))) (in_row-merged row 0 hung ss ∙ sym joined)

-- ---- a cell that ends in its own row

-- isn't kept for the next one
pub ends_here : (row : ℕ) (c : PositionedCell) (l : RowSoFar) → c.row ≡ row → c.span.rowspan ≤ 1 → l ≡ keeping row (c ∷ []) l
ends_here row c l own one = elim (ltb-tells (row + 1) (c.row + c.span.rowspan)) [
  | inl t ↦ (let more = t.1 in absurd (omega arith))
  | inr t ↦ rw (t.0, append-nil l.kept) refl
]
