-- A simple row is its own cells side by side: no cell hangs into it, and none of its own hangs into the next row.
use Rattle.std.proofs.Common.{◌≡◌, ℕ, ◌+◌, ◌^◌, ◌<◌, ◌≤◌, true, List, [], ◌∷◌, ◌++◌, Some, length, get_or, filter, map, drop, All, Contains}
use Rattle.std.proofs.Common.{refl, sym, ap, ◌∙◌, subst, arith, inl, inr}
use Rattle.std.specs.List.Sorted.{IsStrictlyIncreasing}
use Rattle.std.proofs.lemmas.Bool.{cases_Bool}
use Rattle.std.proofs.lemmas.List.{drop-map, drop_more}
use Rattle.std.proofs.lemmas.List.Elements.{All-nil, All-cons, All-drop, All-head, All-tail}
use Rattle.html_render_parts.specs.declared.table.Span.{Span}
use Rattle.html_render_parts.specs.declared.table.cells.GridCell.{GridCell}
use Rattle.html_render_parts.specs.declared.table.placement.PositionedCell.{PositionedCell}
use Rattle.html_render_parts.specs.Placement.{hanging, own_from, placed_rows, row_from}
use Rattle.html_render_parts.specs.Positions.{hangs_into}
use Rattle.html_render_parts.specs.OwnCells.{own_rows_from, on_columns}
use Rattle.html_render_parts.specs.PlacementSteps.{AreAhead, Placing, row_fits, row_told, rows_ahead, with_next_row}
use Rattle.html_render_parts.specs.Grid.{edges_of, numbered}
use Rattle.html_render_parts.specs.TableCells.{CellGrid, span_on, spans_on}
use Rattle.html_render_parts.specs.SimpleRows.{AllStoredFit, StoredFit, cells_from, own_or_simple, own_rows_on, own_with_simple, place_on, row_on}
use Rattle.html_render_parts.proofs.CellsOnColumns.{cells-are, edge_behind, edges-rise, own-in_edges}
use Rattle.html_render_parts.proofs.EdgeRanks.{rank-gets}
use Rattle.html_render_parts.proofs.GatheringEnds.{Between}
use Rattle.html_render_parts.proofs.HangingOrder.{by_column-own}
use Rattle.html_render_parts.proofs.NumberTests.{ltb-tells}
use Rattle.html_render_parts.proofs.RowsOfCells.{own-ahead, own-next}

abbrev pub SpanEnds : Span → Type 0
SpanEnds s = s.rowspan ≤ 1

abbrev pub CellEnds : GridCell → Type 0
CellEnds c = c.rowspan ≤ 1

abbrev Fits : PositionedCell → Type 0
Fits c = c.column + c.span.colspan < 2 ^ 128

abbrev Within : ℕ → Type 0
Within n = n < 2 ^ 128

-- ---- no cell hangs into the next row

none-hang : (row cursor : ℕ) (ss : List Span) → All SpanEnds ss → filter (hangs_into (row + 1)) (own_from row cursor [] ss) ≡ []
none-hang row cursor [] h = refl
none-hang row cursor (s ∷ ss) h =
    let one = All-head SpanEnds s ss h in
    let rest = none-hang row (cursor + s.colspan) ss (All-tail SpanEnds s ss h) in
    elim (ltb-tells (row + 1) (row + s.rowspan)) [
      | inl t ↦ (let more = t.1 in absurd (omega arith))
      | inr t ↦ rw (t.0, rest) refl
    ]

pub nothing-hangs : (row : ℕ) (hung : List PositionedCell) (ss : List Span) → hung ≡ [] → All SpanEnds ss →
    hanging (row + 1) (hung ++ own_from row 0 hung ss) ≡ []
nothing-hangs row hung ss e h =
    subst (λ hs. hanging (row + 1) (hs ++ own_from row 0 hs ss) ≡ []) (sym e)
    (ap (filter (hangs_into (row + 1))) (by_column-own row 0 [] ss) ∙ none-hang row 0 ss h)

-- ---- the stored cells are the own cells of rows that aren't simple

pub stored-placed : (row : ℕ) (hung : List PositionedCell) (ss : List Span) → own_or_simple row ss (own_from row 0 hung ss) ≡ own_from row 0 hung ss
stored-placed row hung [] = refl
stored-placed row hung (s ∷ ss) = refl

-- ---- cells on the columns of their grid

cells-own : (es : List ℕ) (row cursor : ℕ) (ss : List Span) → cells_from es cursor ss ≡ map (on_columns es) (own_from row cursor [] ss)
cells-own es row cursor [] = refl
cells-own es row cursor (s ∷ ss) = ap (λ r. on_columns es (record { row = row; column = cursor; span = s }) ∷ r) (cells-own es row (cursor + s.colspan) ss)

row-own : (es : List ℕ) (row : ℕ) (ss : List Span) (own : List PositionedCell) → row_on es ss own ≡ map (on_columns es) (own_or_simple row ss own)
row-own es row ss [] = cells-own es row 0 ss
row-own es row ss (c ∷ cs) = refl

pub rows-own : (es : List ℕ) (row : ℕ) (rows : List (List Span)) (stored : List (List PositionedCell)) →
    own_rows_on es rows stored ≡ map (map (on_columns es)) (own_with_simple row rows stored)
rows-own es row [] stored = refl
rows-own es row (ss ∷ more) [] = refl
rows-own es row (ss ∷ more) (own ∷ rest) =
    ap (λ r. r ∷ own_rows_on es more rest) (row-own es row ss own)
    ∙ ap (λ r. map (on_columns es) (own_or_simple row ss own) ∷ r) (rows-own es (row + 1) more rest)

told-fit : (row cursor : ℕ) (ss : List Span) → All Fits (own_from row cursor [] ss) → All Within (row_told cursor [] ss)
told-fit row cursor [] h = All-nil Within
told-fit row cursor (s ∷ ss) h =
    let c : PositionedCell = record { row = row; column = cursor; span = s } in
    let rest = own_from row (cursor + s.colspan) [] ss in
    All-cons Within (cursor + s.colspan) (row_told (cursor + s.colspan) [] ss) (All-head Fits c rest h)
    (told-fit row (cursor + s.colspan) ss (All-tail Fits c rest h))

stored-fit : (row : ℕ) (ss : List Span) (own : List PositionedCell) → All Fits (own_or_simple row ss own) → StoredFit ss own
stored-fit row ss [] h = told-fit row 0 ss h
stored-fit row ss (c ∷ cs) h = h

pub all-stored_fit : (row : ℕ) (rows : List (List Span)) (stored : List (List PositionedCell)) →
    All (All Fits) (own_with_simple row rows stored) → AllStoredFit rows stored
all-stored_fit row [] stored h = tt
all-stored_fit row (ss ∷ more) [] h = tt
all-stored_fit row (ss ∷ more) (own ∷ rest) h =
    let first = own_or_simple row ss own in
    let others = own_with_simple (row + 1) more rest in
    (stored-fit row ss own (All-head (All Fits) first others h), all-stored_fit (row + 1) more rest (All-tail (All Fits) first others h))

-- ---- places of a simple row

place-back : (es : List ℕ) (c : PositionedCell) → IsStrictlyIncreasing es → Between (Contains es) c →
    (get_or es (on_columns es c).first 0 ≡ c.column)
    × (get_or es ((on_columns es c).first + (on_columns es c).columns) 0 ≡ c.column + c.span.colspan)
place-back es c rising b = (
  rank-gets es c.column rising b.0,
  ap (λ n. get_or es n 0) (edge_behind es c) ∙ rank-gets es (c.column + c.span.colspan) rising b.1,
)

places-own : (es : List ℕ) → IsStrictlyIncreasing es → (row cursor : ℕ) (ss : List Span) → All (Between (Contains es)) (own_from row cursor [] ss) →
    map (numbered es) (row_from cursor [] ss) ≡ map (place_on es) (map (on_columns es) (own_from row cursor [] ss))
places-own es rising row cursor [] b = refl
places-own es rising row cursor (s ∷ ss) b =
    let c : PositionedCell = record { row = row; column = cursor; span = s } in
    let rest = own_from row (cursor + s.colspan) [] ss in
    let here = place-back es c rising (All-head (Between (Contains es)) c rest b) in
    let ih = places-own es rising row (cursor + s.colspan) ss (All-tail (Between (Contains es)) c rest b) in
    rw (here.0, here.1, ih) refl

-- ---- the next row of a table, if it is simple

-- the head of a list at an index
head-at : {X : Type 0} (xs : List X) (i : ℕ) (x y : X) (rest : List X) → i < length xs → get_or xs i x ≡ x → drop i xs ≡ y ∷ rest → x ≡ y
head-at xs i x y rest inside at e =
    let f : x ∷ drop (i + 1) xs ≡ y ∷ rest = ap (λ z. z ∷ drop (i + 1) xs) (sym at) ∙ sym (drop_more xs i x inside) ∙ e in cc

-- the cells of a table's row are its own cells on the columns of the grid
cells-at_row : (g : CellGrid) (row : ℕ) (hung : List PositionedCell) (cells : List GridCell) (spans : List Span) (more : List (List Span)) →
    AreAhead g row hung → row < length g.rows → get_or g.rows row cells ≡ cells → drop row (spans_on g) ≡ spans ∷ more →
    (cells ≡ map (on_columns g.edges) (own_from row 0 hung spans)) × All (Between (Contains g.edges)) (own_from row 0 hung spans)
cells-at_row g row hung cells spans more h inside at here =
    let S = spans_on g in
    let is = (cells-are S g h.table.own).1 in
    let X = own_rows_from 0 [] S in
    let es = edges_of (placed_rows S) in
    let rest = own_rows_from (row + 1) (hanging (row + 1) (hung ++ own_from row 0 hung spans)) more in
    let edges : es ≡ g.edges = ap (λ x. x.edges) is in
    let rows : map (map (on_columns es)) X ≡ g.rows = ap (λ x. x.rows) is in
    let own : drop row X ≡ own_from row 0 hung spans ∷ rest = h.own ∙ ap (own_rows_from row hung) here in
    let dropped : drop row g.rows ≡ map (on_columns es) (own_from row 0 hung spans) ∷ map (map (on_columns es)) rest =
    ap (drop row) (sym rows) ∙ drop-map (map (on_columns es)) row X ∙ ap (map (map (on_columns es))) own in
    let cell : cells ≡ map (on_columns es) (own_from row 0 hung spans) = head-at g.rows row cells _ _ inside at dropped in
    let between : All (All (Between (Contains es))) (drop row X) = All-drop (All (Between (Contains es))) row X (own-in_edges S) in
    let first : All (Between (Contains es)) (own_from row 0 hung spans) =
    All-head (All (Between (Contains es))) (own_from row 0 hung spans) rest (subst (All (All (Between (Contains es)))) own between) in
    subst (λ x. (cells ≡ map (on_columns x) (own_from row 0 hung spans)) × All (Between (Contains x)) (own_from row 0 hung spans)) edges (cell, first)

span-ends : (es : List ℕ) (cells : List GridCell) → All CellEnds cells → All SpanEnds (map (span_on es) cells)
span-ends es [] h = All-nil SpanEnds
span-ends es (c ∷ cs) h = All-cons SpanEnds (span_on es c) (map (span_on es) cs) (All-head CellEnds c cs h) (span-ends es cs (All-tail CellEnds c cs h))

-- the next row has its cells side by side, and the others remain
pub record IsSimpleAhead (g : CellGrid) (row : ℕ) (hung : List PositionedCell) (cells : List GridCell) : Type 0 where
  pub places : rows_ahead g row hung ≡ map (place_on g.edges) cells ∷ rows_ahead g (row + 1) hung
  pub ahead : AreAhead g (row + 1) hung

row-fit : (g : CellGrid) (row : ℕ) (hung : List PositionedCell) (spans : List Span) (more : List (List Span)) → AreAhead g row hung →
    drop row (spans_on g) ≡ spans ∷ more → row_fits (row_from 0 hung spans) ≡ true
row-fit g row hung spans more h here = elim (cases_Bool (row_fits (row_from 0 hung spans))) [
  | inl t ↦ t
  | inr t ↦ let f = rw (here, t) at h.fits in cc
]

pub simple-ahead : (g : CellGrid) (row : ℕ) (hung : List PositionedCell) (cells : List GridCell) → hung ≡ [] → AreAhead g row hung →
    row < length g.rows → get_or g.rows row cells ≡ cells → All CellEnds cells → IsSimpleAhead g row hung cells
simple-ahead g row hung cells empty h inside at end =
    let spans = map (span_on g.edges) cells in
    let more = drop (row + 1) (spans_on g) in
    let here = own-ahead g row cells inside at in
    let done : Placing = record { places = []; own = []; told = []; hanging = hung } in
    let next : Placing = record {
      places = row_from 0 hung spans;
      own = own_from row 0 hung spans;
      told = row_told 0 hung spans;
      hanging = hung;
    } in
    let none : hanging (row + 1) (hung ++ own_from row 0 hung spans) ≡ hung =
    nothing-hangs row hung spans empty (span-ends g.edges cells end) ∙ sym empty in
    let made : with_next_row row spans done ≡ Some next = rw (row-fit g row hung spans more h here, none) refl in
    let is = own-next g row cells done next inside at h made in
    let own = cells-at_row g row hung cells spans more h inside at here in
    let places : map (numbered g.edges) (row_from 0 hung spans) ≡ map (place_on g.edges) cells =
    subst (λ hs. map (numbered g.edges) (row_from 0 hs spans) ≡ map (place_on g.edges) (map (on_columns g.edges) (own_from row 0 hs spans)))
    (sym empty)
    (places-own g.edges (edges-rise g h.table) row 0 spans (subst (λ hs. All (Between (Contains g.edges)) (own_from row 0 hs spans)) empty own.1))
    ∙ ap (map (place_on g.edges)) (sym own.0) in
    record {
      places = ap (map (map (numbered g.edges))) is.places ∙ ap (λ r. r ∷ rows_ahead g (row + 1) hung) places;
      ahead = is.ahead;
    }
