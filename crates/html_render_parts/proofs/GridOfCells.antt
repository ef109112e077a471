-- The cells of a table on the columns of its grid agree with the grid.
use Rattle.std.proofs.Common.{◌≡◌, ℕ, ◌+◌, ◌-◌, ◌<◌, ◌≤◌, List, [], ◌∷◌, ◌++◌, Some, length, filter, map, drop, take, All, nat_le}
use Rattle.std.proofs.Common.{refl, sym, ap, ◌∙◌, subst, arith, inl, inr, ◌⊎◌}
use Rattle.std.specs.Prelude.{Any, Contains, option_map, sum_by}
use Rattle.std.specs.List.Sorted.{IsStrictlyIncreasing}
use Rattle.std.proofs.lemmas.Bool.{cases_Bool}
use Rattle.std.proofs.lemmas.List.Elements.{All-nil, All-cons, All-weaker}
use Rattle.html_render_parts.specs.declared.table.Span.{Span}
use Rattle.html_render_parts.specs.declared.table.PlacedCell.{PlacedCell}
use Rattle.html_render_parts.specs.declared.table.placement.Place.{Place}
use Rattle.html_render_parts.specs.declared.table.placement.PositionedCell.{PositionedCell}
use Rattle.html_render_parts.specs.Placement.{end_of, hanging, own_from}
use Rattle.html_render_parts.specs.OwnCells.{own_grid_of, own_rows_from, on_columns, cells_of}
use Rattle.html_render_parts.specs.Placement.{placed_rows, rest_from, rising, row_from, rows_from}
use Rattle.html_render_parts.specs.Grid.{AreSideBySide, edges_of, grid_of, numbered, rank, IsLeastNumbering, IsNumbering}
use Rattle.html_render_parts.specs.Positions.{ends, positions_fit}
use Rattle.html_render_parts.specs.TableCells.{CellGrid, IsCellGrid, cell_grid_of, columns_of, rows_on, spans_on, is_cell}
use Rattle.html_render_parts.specs.CellsInRows.{cells_in, columns_taken}
use Rattle.html_render_parts.specs.laws.OwnCells.{cells_at, cells-own, none-rest, own_place, row-cells}
use Rattle.html_render_parts.proofs.CellsOnColumns.{cells-are, spans-back}
use Rattle.html_render_parts.proofs.EdgeRanks.{IsStrictlyIncreasing-rising, rank-least, rank-less}
use Rattle.html_render_parts.proofs.EdgesOfCells.{edge-is, is-edge}
use Rattle.html_render_parts.proofs.SideBySide.{fit-columns, have-columns, stand-side_by_side}

-- ---- the whole grid

-- edges and rows of the cells' grid
abbrev grid_on_cells : CellGrid → List ℕ × List (List PlacedCell)
grid_on_cells g = (g.edges, rows_on g)

on-cells : (rows : List (List Span)) →
    grid_on_cells (cells_of rows)
    ≡ (edges_of (placed_rows rows), map (map (numbered (edges_of (placed_rows rows)))) (placed_rows rows))
on-cells rows =
    ap (λ r. (edges_of (placed_rows rows), map (map (numbered (edges_of (placed_rows rows)))) (placed_rows r))) (spans-back rows)

same-own : (rows : List (List Span)) → grid_of rows ≡ option_map grid_on_cells (own_grid_of rows)
same-own rows = elim (cases_Bool (positions_fit (placed_rows rows))) [
  | inl t ↦ rw t (ap (λ g. Some g) (sym (on-cells rows)))
  | inr t ↦ rw t refl
]

pub same-grid : (rows : List (List Span)) → grid_of rows ≡ option_map grid_on_cells (cell_grid_of rows)
same-grid rows = same-own rows ∙ ap (option_map grid_on_cells) (sym (cells-own rows))

pub grid-of_table : (g : CellGrid) → IsCellGrid g → grid_of (spans_on g) ≡ Some (grid_on_cells g)
grid-of_table g h = same-grid (spans_on g) ∙ ap (option_map grid_on_cells) h.own

pub spans-of_cells : (rows : List (List Span)) (g : CellGrid) → cell_grid_of rows ≡ Some g → spans_on g ≡ rows
spans-of_cells rows g e = ap spans_on (sym (cells-are rows g e).1) ∙ spans-back rows

-- ---- the edges and their numbers

pub edges-of_cells : (rows : List (List Span)) (g : CellGrid) → cell_grid_of rows ≡ Some g → g.edges ≡ edges_of (placed_rows rows)
edges-of_cells rows g e = ap (λ c. c.edges) (sym (cells-are rows g e).1)

pub rows-of_cells : (rows : List (List Span)) (g : CellGrid) → cell_grid_of rows ≡ Some g →
    rows_on g ≡ map (map (numbered g.edges)) (placed_rows rows)
rows-of_cells rows g e = ap (λ r. map (map (numbered g.edges)) (placed_rows r)) (spans-of_cells rows g e)

pub cells-rising : (rows : List (List Span)) (g : CellGrid) → cell_grid_of rows ≡ Some g → IsStrictlyIncreasing g.edges
cells-rising rows g e = rw (edges-of_cells rows g e) (IsStrictlyIncreasing-rising (0 ∷ ends (placed_rows rows)))

pub cells-numbering : (rows : List (List Span)) (g : CellGrid) → cell_grid_of rows ≡ Some g → IsNumbering g.edges (rank g.edges)
cells-numbering rows g e = λ a b in_a in_b less. rank-less g.edges a b in_a less

pub cells-least : (rows : List (List Span)) (g : CellGrid) → cell_grid_of rows ≡ Some g → IsLeastNumbering g.edges (rank g.edges)
cells-least rows g e = rank-least g.edges (cells-rising rows g e)

abbrev EndsAt : ℕ → PlacedCell → Type 0
EndsAt e c = c.end ≡ e

pub edge-ends : (rows : List (List Span)) (g : CellGrid) → cell_grid_of rows ≡ Some g → (e : ℕ) → Contains g.edges e →
    (e ≡ 0) ⊎ Any (Any (EndsAt e)) (rows_on g)
edge-ends rows g is e h =
    rw (rows-of_cells rows g is) (edge-is g.edges (placed_rows rows) e (subst (λ es. Contains es e) (edges-of_cells rows g is) h))

pub ends-edge : (rows : List (List Span)) (g : CellGrid) → cell_grid_of rows ≡ Some g → (e : ℕ) →
    (e ≡ 0) ⊎ Any (Any (EndsAt e)) (rows_on g)
    → Contains g.edges e
ends-edge rows g is e h =
    subst (λ es. Contains es e) (sym (edges-of_cells rows g is))
    (is-edge g.edges (placed_rows rows) e (subst (λ r. (e ≡ 0) ⊎ Any (Any (EndsAt e)) r) (rows-of_cells rows g is) h))

-- ---- side by side

-- a property of the grid's number of edges and its rows is one of those of the cells
on-table : (Q : ℕ → List (List PlacedCell) → Type 0) (g : CellGrid) → IsCellGrid g →
    (let es = edges_of (placed_rows (spans_on g)) in Q (length es) (map (map (numbered es)) (placed_rows (spans_on g))))
    → Q (length g.edges) (rows_on g)
on-table Q g h is =
    subst (λ es. Q (length es) (map (map (numbered es)) (placed_rows (spans_on g)))) (sym (edges-of_cells (spans_on g) g h.own)) is

pub cells-side_by_side : (g : CellGrid) → IsCellGrid g → All (AreSideBySide 0) (rows_on g)
cells-side_by_side g h = on-table (λ n rows. All (AreSideBySide 0) rows) g h (stand-side_by_side (spans_on g) h.valid)

pub cells-have_columns : (g : CellGrid) → IsCellGrid g → All (All (λ (p : PlacedCell). 1 ≤ p.columns)) (rows_on g)
cells-have_columns g h = on-table (λ n rows. All (All (λ (p : PlacedCell). 1 ≤ p.columns)) rows) g h (have-columns (spans_on g) h.valid)

pub cells-in_table : (g : CellGrid) → IsCellGrid g → All (λ places. sum_by (λ (p : PlacedCell). p.columns) places ≤ columns_of g) (rows_on g)
cells-in_table g h =
    let few : All (λ places. sum_by (λ (p : PlacedCell). p.columns) places < length g.edges) (rows_on g) =
    on-table (λ n rows. All (λ places. sum_by (λ (p : PlacedCell). p.columns) places < n) rows) g h (fit-columns (spans_on g) h.valid) in
    All-weaker (λ places. sum_by (λ (p : PlacedCell). p.columns) places < length g.edges)
    (λ places. sum_by (λ (p : PlacedCell). p.columns) places ≤ columns_of g) (λ places less. omega arith) (rows_on g) few

-- ---- the cells of each row

-- first column and number of columns of a place
abbrev taken_by : List ℕ → Place → ℕ × ℕ
taken_by es p = (rank es p.start, rank es p.end - rank es p.start)

in-places : (es : List ℕ) (ps : List Place) → cells_in es (map (numbered es) ps) ≡ map (taken_by es) (cells_at ps)
in-places es [] = refl
in-places es (p ∷ ps) = elim (cases_Bool (is_cell p.kind)) [
  | inl t ↦ rw t (ap (λ r. taken_by es p ∷ r) (in-places es ps))
  | inr t ↦ rw t (in-places es ps)
]

taken-own : (es : List ℕ) (cs : List PositionedCell) → map (taken_by es) (map own_place cs) ≡ columns_taken (map (on_columns es) cs)
taken-own es [] = refl
taken-own es (c ∷ cs) = ap (λ r. taken_by es (own_place c) ∷ r) (taken-own es cs)

all-cells : (es : List ℕ) (row : ℕ) (hung : List PositionedCell) (rows : List (List Span)) →
    map columns_taken (map (map (on_columns es)) (own_rows_from row hung rows))
    ≡ map (cells_in es) (take (length rows) (map (map (numbered es)) (rows_from row hung rows)))
all-cells es row hung [] = refl
all-cells es row hung (cells ∷ more) =
    let own = own_from row 0 hung cells in
    let next = hanging (row + 1) (hung ++ own) in
    let here : columns_taken (map (on_columns es) own) ≡ cells_in es (map (numbered es) (row_from 0 hung cells)) =
    sym (in-places es (row_from 0 hung cells) ∙ ap (map (taken_by es)) (row-cells row 0 hung cells) ∙ taken-own es own) in
    ap (λ r. r ∷ map columns_taken (map (map (on_columns es)) (own_rows_from (row + 1) next more))) here
    ∙ ap (λ r. cells_in es (map (numbered es) (row_from 0 hung cells)) ∷ r) (all-cells es (row + 1) next more)

pub cells-in_rows : (rows : List (List Span)) (g : CellGrid) → cell_grid_of rows ≡ Some g →
    map columns_taken g.rows ≡ map (cells_in g.edges) (take (length rows) (rows_on g))
cells-in_rows rows g e =
    let is = cells-are rows g e in
    let es = edges_of (placed_rows rows) in
    let own : g.rows ≡ map (map (on_columns es)) (own_rows_from 0 [] rows) = ap (λ c. c.rows) (sym is.1) in
    ap (map columns_taken) own
    ∙ all-cells es 0 [] rows
    ∙ ap (λ x. map (cells_in x) (take (length rows) (map (map (numbered x)) (placed_rows rows)))) (sym (edges-of_cells rows g e))
    ∙ ap (λ r. map (cells_in g.edges) (take (length rows) r)) (sym (rows-of_cells rows g e))

-- ---- no own cells below the last row

abbrev HasNone : List ℕ → List PlacedCell → Type 0
HasNone es places = cells_in es places ≡ []

none-bottom : (es : List ℕ) (hung : List PositionedCell) (ns : List ℕ) →
    All (HasNone es) (map (map (numbered es)) (map (λ n. rest_from 0 (filter (λ c. nat_le n (end_of c)) hung)) ns))
none-bottom es hung [] = All-nil (HasNone es)
none-bottom es hung (n ∷ ns) =
    let reaching = filter (λ (c : PositionedCell). nat_le n (end_of c)) hung in
    All-cons (HasNone es) (map (numbered es) (rest_from 0 reaching))
    (map (map (numbered es)) (map (λ m. rest_from 0 (filter (λ c. nat_le m (end_of c)) hung)) ns))
    (in-places es (rest_from 0 reaching) ∙ ap (map (taken_by es)) (none-rest 0 reaching)) (none-bottom es hung ns)

none-below : (es : List ℕ) (row : ℕ) (hung : List PositionedCell) (rows : List (List Span)) →
    All (HasNone es) (drop (length rows) (map (map (numbered es)) (rows_from row hung rows)))
none-below es row hung [] = none-bottom es hung (rising (map end_of hung))
none-below es row hung (cells ∷ more) = none-below es (row + 1) (hanging (row + 1) (hung ++ own_from row 0 hung cells)) more

pub no-cells_below : (rows : List (List Span)) (g : CellGrid) → cell_grid_of rows ≡ Some g →
    All (λ places. cells_in g.edges places ≡ []) (drop (length rows) (rows_on g))
no-cells_below rows g e =
    subst (λ r. All (HasNone g.edges) (drop (length rows) r)) (sym (rows-of_cells rows g e)) (none-below g.edges 0 [] rows)
