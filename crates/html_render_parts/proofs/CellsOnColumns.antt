-- The spans of a table's cells follow from the cells on the columns of their grid.
use Rattle.std.proofs.Common.{◌≡◌, ◌∙◌, ℕ, ◌+◌, ◌-◌, ◌^◌, ◌<◌, ◌≤◌, true, List, [], ◌∷◌, ◌++◌, Some, length, get_or, map, All, Contains, refl, sym, ap}
use Rattle.std.proofs.Common.{subst, arith, inl, inr, nat_lt}
use Rattle.std.specs.List.Sorted.{IsStrictlyIncreasing}
use Rattle.std.proofs.lemmas.Bool.{cases_Bool, ltb-true}
use Rattle.std.proofs.lemmas.List.Elements.{All-nil, All-cons, All-head, All-tail, All-weaker, All-map, All-contains_itself, Contains-append_left, Contains-append_right}
use Rattle.html_render_parts.specs.declared.table.Span.{Span}
use Rattle.html_render_parts.specs.declared.table.cells.GridCell.{GridCell}
use Rattle.html_render_parts.specs.declared.table.placement.Place.{Place}
use Rattle.html_render_parts.specs.declared.table.placement.PositionedCell.{PositionedCell}
use Rattle.html_render_parts.specs.Placement.{hanging, own_from, placed_rows, row_from, rows_from, due_end, not_due}
use Rattle.html_render_parts.specs.PlacementSteps.{row_fits}
use Rattle.html_render_parts.specs.laws.OwnCells.{cells-own}
use Rattle.html_render_parts.specs.OwnCells.{cells_of, own_rows_from, on_columns}
use Rattle.html_render_parts.specs.Grid.{AreValid, edges_of, rank}
use Rattle.html_render_parts.specs.Positions.{ends, positions_fit}
use Rattle.html_render_parts.specs.TableCells.{CellGrid, IsCellGrid, cell_grid_of, columns_of, span_on, spans_on}
use Rattle.html_render_parts.proofs.EdgeRanks.{Contains-here, Contains-rising, Contains-there, IsStrictlyIncreasing-rising, rank-below, rank-gets}
use Rattle.html_render_parts.proofs.EdgeRanks.{rank-less, rank-mono}
use Rattle.html_render_parts.proofs.GatheringEnds.{Between, EndsIn, own-between}
use Rattle.html_render_parts.proofs.Vectors.{All-unmap}
use Rattle.std.proofs.lemmas.List.Sums.{AllPass-from_list_all}
use Rattle.html_render_parts.proofs.SideBySide.{Valid, Wide, Wide-own_from}

-- ---- positions of the table's own cells

own_rows-between : (I : ℕ → Type 0) (row : ℕ) (hung : List PositionedCell) (rows : List (List Span)) → I 0 →
    All (All (EndsIn I)) (rows_from row hung rows)
    → All (All (Between I)) (own_rows_from row hung rows)
own_rows-between I row hung [] zero h = All-nil (All (Between I))
own_rows-between I row hung (cells ∷ more) zero h =
    let own = own_from row 0 hung cells in
    let next = hanging (row + 1) (hung ++ own) in
    All-cons (All (Between I)) own (own_rows_from (row + 1) next more)
    (own-between I row 0 hung cells zero (All-head (All (EndsIn I)) (row_from 0 hung cells) (rows_from (row + 1) next more) h))
    (own_rows-between I (row + 1) next more zero (All-tail (All (EndsIn I)) (row_from 0 hung cells) (rows_from (row + 1) next more) h))

row-ends_in : (I : ℕ → Type 0) (ps : List Place) → ((n : ℕ) → Contains (map (λ p. p.end) ps) n → I n) → All (EndsIn I) ps
row-ends_in I ps f =
    let ends_of = map (λ (p : Place). p.end) ps in
    All-unmap I (λ (p : Place). p.end) ps (All-weaker (Contains ends_of) I f ends_of (All-contains_itself ends_of))

all-ends_in : (I : ℕ → Type 0) (rows : List (List Place)) → ((n : ℕ) → Contains (ends rows) n → I n) → All (All (EndsIn I)) rows
all-ends_in I [] f = All-nil (All (EndsIn I))
all-ends_in I (r ∷ rows) f =
    All-cons (All (EndsIn I)) r rows (row-ends_in I r (λ n h. f n (Contains-append_left (map (λ p. p.end) r) (ends rows) n h)))
    (all-ends_in I rows (λ n h. f n (Contains-append_right (map (λ p. p.end) r) (ends rows) n h)))

-- each own cell begins and ends at an edge
pub own-in_edges : (rows : List (List Span)) → All (All (Between (Contains (edges_of (placed_rows rows))))) (own_rows_from 0 [] rows)
own-in_edges rows =
    let placed = placed_rows rows in
    let I = Contains (edges_of placed) in
    own_rows-between I 0 [] rows (Contains-rising 0 (0 ∷ ends placed) (Contains-here 0 (ends placed)))
    (all-ends_in I placed (λ n h. Contains-rising n (0 ∷ ends placed) (Contains-there 0 n (ends placed) h)))

-- ---- positions that fit

row-within : (ps : List Place) → row_fits ps ≡ true → All (EndsIn (λ n. n < 2 ^ 128)) ps
row-within ps e = All-weaker (λ (p : Place). nat_lt p.end (2 ^ 128) ≡ true) (EndsIn (λ n. n < 2 ^ 128)) (λ p. ltb-true p.end (2 ^ 128)) ps
    (AllPass-from_list_all (λ (p : Place). nat_lt p.end (2 ^ 128)) ps e)

rows-within : (rows : List (List Place)) → positions_fit rows ≡ true → All (All (EndsIn (λ n. n < 2 ^ 128))) rows
rows-within rows e = All-weaker (λ r. row_fits r ≡ true) (All (EndsIn (λ n. n < 2 ^ 128))) row-within rows
    (AllPass-from_list_all row_fits rows e)

pub own-within : (rows : List (List Span)) → positions_fit (placed_rows rows) ≡ true →
    All (All (λ c. c.column + c.span.colspan < 2 ^ 128)) (own_rows_from 0 [] rows)
own-within rows e =
    let I : ℕ → Type 0 = λ n. n < 2 ^ 128 in
    let P : PositionedCell → Type 0 = λ c. c.column + c.span.colspan < 2 ^ 128 in
    All-weaker (All (Between I)) (All P) (λ cs h. All-weaker (Between I) P (λ c b. b.1) cs h) (own_rows_from 0 [] rows)
    (own_rows-between I 0 [] rows (omega arith) (rows-within (placed_rows rows) e))

-- ---- one cell

pub edge_behind : (es : List ℕ) (c : PositionedCell) → (on_columns es c).first + (on_columns es c).columns ≡ rank es (c.column + c.span.colspan)
edge_behind es c = let mono = rank-mono es c.column (c.column + c.span.colspan) (omega arith) in omega arith

span-back : (es : List ℕ) (c : PositionedCell) → IsStrictlyIncreasing es → Between (Contains es) c → span_on es (on_columns es c) ≡ c.span
span-back es c rising b =
    let start = rank-gets es c.column rising b.0 in
    let end = rank-gets es (c.column + c.span.colspan) rising b.1 in
    let many : get_or es ((on_columns es c).first + (on_columns es c).columns) 0 - get_or es (on_columns es c).first 0 ≡ c.span.colspan =
    rw (edge_behind es c, start, end) (omega arith) in
    let at : ℕ → Span = λ n. record { colspan = n; rowspan = c.span.rowspan } in
    ap at many

-- ---- all cells

row-back : (es : List ℕ) → IsStrictlyIncreasing es → (row cursor : ℕ) (hs : List PositionedCell) (ss : List Span) →
    All (Between (Contains es)) (own_from row cursor hs ss)
    → map (span_on es) (map (on_columns es) (own_from row cursor hs ss)) ≡ ss
row-back es rising row cursor hs [] b = refl
row-back es rising row cursor hs (s ∷ ss) b =
    let column = due_end cursor hs in
    let c : PositionedCell = record { row = row; column = column; span = s } in
    let rest = own_from row (column + s.colspan) (not_due cursor hs) ss in
    let here = span-back es c rising (All-head (Between (Contains es)) c rest b) in
    let ih = row-back es rising row (column + s.colspan) (not_due cursor hs) ss (All-tail (Between (Contains es)) c rest b) in
    rw (here, ih) refl

rows-back : (es : List ℕ) → IsStrictlyIncreasing es → (row : ℕ) (hung : List PositionedCell) (rows : List (List Span)) →
    All (All (Between (Contains es))) (own_rows_from row hung rows)
    → map (map (span_on es)) (map (map (on_columns es)) (own_rows_from row hung rows)) ≡ rows
rows-back es rising row hung [] b = refl
rows-back es rising row hung (cells ∷ more) b =
    let own = own_from row 0 hung cells in
    let next = hanging (row + 1) (hung ++ own) in
    let rest = own_rows_from (row + 1) next more in
    let here = row-back es rising row 0 hung cells (All-head (All (Between (Contains es))) own rest b) in
    let ih = rows-back es rising (row + 1) next more (All-tail (All (Between (Contains es))) own rest b) in
    rw (here, ih) refl

-- ---- the cells of a table

pub cells-are : (rows : List (List Span)) (g : CellGrid) → cell_grid_of rows ≡ Some g →
    (positions_fit (placed_rows rows) ≡ true) × (cells_of rows ≡ g)
cells-are rows g e =
    let is = sym (cells-own rows) ∙ e in
    elim (cases_Bool (positions_fit (placed_rows rows))) [
      | inl t ↦ let f = rw t at is in (t, cc)
      | inr t ↦ let f = rw t at is in cc
    ]

-- the cells of these rows have the rows' spans
pub spans-back : (rows : List (List Span)) → spans_on (cells_of rows) ≡ rows
spans-back rows =
    let placed = placed_rows rows in
    rows-back (edges_of placed) (IsStrictlyIncreasing-rising (0 ∷ ends placed)) 0 [] rows (own-in_edges rows)

pub cells-valid : (rows : List (List Span)) → AreValid rows → positions_fit (placed_rows rows) ≡ true → IsCellGrid (cells_of rows)
cells-valid rows valid fits = record {
  valid = subst AreValid (sym (spans-back rows)) valid;
  own = subst (λ r. cell_grid_of r ≡ Some (cells_of rows)) (sym (spans-back rows)) (cells-own rows ∙ (rw fits refl));
}

-- ---- properties of each table's cells

pub edges-rise : (g : CellGrid) → IsCellGrid g → IsStrictlyIncreasing g.edges
edges-rise g h =
    let is = cells-are (spans_on g) g h.own in
    subst (λ x. IsStrictlyIncreasing x.edges) is.1 (IsStrictlyIncreasing-rising (0 ∷ ends (placed_rows (spans_on g))))

own_rows-wide : (row : ℕ) (hung : List PositionedCell) (rows : List (List Span)) → AreValid rows → All (All Wide) (own_rows_from row hung rows)
own_rows-wide row hung [] v = All-nil (All Wide)
own_rows-wide row hung (cells ∷ more) v =
    let own = own_from row 0 hung cells in
    let next = hanging (row + 1) (hung ++ own) in
    All-cons (All Wide) own (own_rows_from (row + 1) next more) (Wide-own_from row 0 hung cells (All-head (All Valid) cells more v))
    (own_rows-wide (row + 1) next more (All-tail (All Valid) cells more v))

-- whether a cell is on the columns of a table, and at least on one
abbrev pub IsWithin : ℕ → GridCell → Type 0
IsWithin columns c = (c.first + c.columns ≤ columns) × (0 < c.columns)

cell-within : (es : List ℕ) (c : PositionedCell) → Between (Contains es) c → Wide c → IsWithin (length es - 1) (on_columns es c)
cell-within es c b wide =
    let some : 1 ≤ c.span.colspan = wide in
    let behind = edge_behind es c in
    let below = rank-below es (c.column + c.span.colspan) b.1 in
    let less = rank-less es c.column (c.column + c.span.colspan) b.0 (omega arith) in
    (omega arith, omega arith)

row-within_columns : (es : List ℕ) (cs : List PositionedCell) → All (Between (Contains es)) cs → All Wide cs →
    All (IsWithin (length es - 1)) (map (on_columns es) cs)
row-within_columns es cs b w = All-map (IsWithin (length es - 1)) (on_columns es) cs
    (λ k d inside. cell-within es (get_or cs k d) (b k d inside) (w k d inside))

rows-within_columns : (es : List ℕ) (rows : List (List PositionedCell)) → All (All (Between (Contains es))) rows → All (All Wide) rows →
    All (All (IsWithin (length es - 1))) (map (map (on_columns es)) rows)
rows-within_columns es rows b w = All-map (All (IsWithin (length es - 1))) (map (on_columns es)) rows
    (λ k d inside. row-within_columns es (get_or rows k d) (b k d inside) (w k d inside))

pub cells-within : (g : CellGrid) → IsCellGrid g → All (All (IsWithin (columns_of g))) g.rows
cells-within g h =
    let rows = spans_on g in
    let is = cells-are rows g h.own in
    subst (λ x. All (All (IsWithin (columns_of x))) x.rows) is.1
    (rows-within_columns (edges_of (placed_rows rows)) (own_rows_from 0 [] rows) (own-in_edges rows) (own_rows-wide 0 [] rows h.valid))
