-- The cells of a table's grid are its own cells at their own columns.
use Rattle.std.proofs.Common.{◌≡◌, ℕ, ◌+◌, List, [], ◌∷◌, ◌++◌, Some, filter, map, max, refl, ap, ◌∙◌, inl, inr, suc}
use Rattle.std.specs.Prelude.{zip}
use Rattle.std.proofs.lemmas.Bool.{cases_Bool}
use Rattle.std.proofs.lemmas.Bool.Decides.{leb_tells}
use Rattle.std.proofs.lemmas.List.Elements.{filter-append}
use Rattle.html_render_parts.specs.declared.table.Span.{Span}
use Rattle.html_render_parts.specs.declared.table.CellKind.TheVariants.{Cell, Placeholder}
use Rattle.html_render_parts.specs.declared.table.PlacedCell.{PlacedCell}
use Rattle.html_render_parts.specs.declared.table.cells.GridCell.{GridCell}
use Rattle.html_render_parts.specs.declared.table.placement.Place.{Place}
use Rattle.html_render_parts.specs.declared.table.placement.PositionedCell.{PositionedCell}
use Rattle.html_render_parts.specs.Placement.{gap_to, hanging, own_from, place_from, placed_rows, rest_from, row_from, rows_from, due_end, due_places, not_due}
use Rattle.html_render_parts.specs.Grid.{edges_of, numbered, rank}
use Rattle.html_render_parts.specs.Positions.{positions_fit}
use Rattle.html_render_parts.specs.TableCells.{cell_grid_of, cells_on, is_cell}
use Rattle.html_render_parts.specs.OwnCells.{on_columns, own_grid_of, own_rows_from}

-- ---- the cells among the places of a row

abbrev pub cells_at : List Place → List Place
cells_at ps = filter (λ (p : Place). is_cell p.kind) ps

abbrev pub own_place : PositionedCell → Place
own_place c = place_from Cell c.column c.span.colspan

none-due : (cursor : ℕ) (hs : List PositionedCell) → cells_at (due_places cursor hs) ≡ []
none-due cursor [] = refl
none-due cursor (h ∷ hs) = elim (leb_tells h.column cursor) [ inl t ↦ rw t.0 (none-due (cursor + h.span.colspan) hs) | inr t ↦ rw t.0 refl ]

none-gap : (cursor column : ℕ) → cells_at (gap_to cursor column) ≡ []
none-gap cursor column = elim (leb_tells (suc cursor) column) [ inl t ↦ rw t.0 refl | inr t ↦ rw t.0 refl ]

pub none-rest : (cursor : ℕ) (hs : List PositionedCell) → cells_at (rest_from cursor hs) ≡ []
none-rest cursor [] = refl
none-rest cursor (h ∷ hs) =
    let column = max cursor h.column in
    filter-append (λ (p : Place). is_cell p.kind) (gap_to cursor h.column) (place_from Placeholder column h.span.colspan ∷ rest_from (column + h.span.colspan) hs)
    ∙ ap (λ ps. ps ++ cells_at (rest_from (column + h.span.colspan) hs)) (none-gap cursor h.column)
    ∙ none-rest (column + h.span.colspan) hs

pub row-cells : (row cursor : ℕ) (hs : List PositionedCell) (ss : List Span) →
    cells_at (row_from cursor hs ss) ≡ map own_place (own_from row cursor hs ss)
row-cells row cursor hs [] = none-rest cursor hs
row-cells row cursor hs (s ∷ ss) =
    let column = due_end cursor hs in
    let rest = row_from (column + s.colspan) (not_due cursor hs) ss in
    filter-append (λ (p : Place). is_cell p.kind) (due_places cursor hs) (place_from Cell column s.colspan ∷ rest)
    ∙ ap (λ ps. ps ++ place_from Cell column s.colspan ∷ cells_at rest) (none-due cursor hs)
    ∙ ap (λ ps. place_from Cell column s.colspan ∷ ps) (row-cells row (column + s.colspan) (not_due cursor hs) ss)

-- ---- these cells on their columns

numbered-cells : (es : List ℕ) (ps : List Place) → filter (λ (p : PlacedCell). is_cell p.kind) (map (numbered es) ps) ≡ map (numbered es) (cells_at ps)
numbered-cells es [] = refl
numbered-cells es (p ∷ ps) = elim (cases_Bool (is_cell p.kind)) [
  | inl t ↦ rw t (ap (λ r. numbered es p ∷ r) (numbered-cells es ps))
  | inr t ↦ rw t (numbered-cells es ps)
]

abbrev on_grid : List ℕ → PlacedCell × Span → GridCell
on_grid es x = record { rowspan = x.1.rowspan; first = rank es x.0.start; columns = x.0.columns }

own-numbered : (es : List ℕ) (row cursor : ℕ) (hs : List PositionedCell) (ss : List Span) →
    map (on_grid es) (zip (map (numbered es) (map own_place (own_from row cursor hs ss))) ss) ≡ map (on_columns es) (own_from row cursor hs ss)
own-numbered es row cursor hs [] = refl
own-numbered es row cursor hs (s ∷ ss) =
    let c : PositionedCell = record { row = row; column = due_end cursor hs; span = s } in
    ap (λ r. on_columns es c ∷ r) (own-numbered es row (due_end cursor hs + s.colspan) (not_due cursor hs) ss)

row-on : (es : List ℕ) (row : ℕ) (hung : List PositionedCell) (cells : List Span) →
    cells_on es (map (numbered es) (row_from 0 hung cells)) cells ≡ map (on_columns es) (own_from row 0 hung cells)
row-on es row hung cells =
    ap (λ ps. map (on_grid es) (zip ps cells)) (numbered-cells es (row_from 0 hung cells) ∙ ap (map (numbered es)) (row-cells row 0 hung cells))
    ∙ own-numbered es row 0 hung cells

abbrev on_rows : List ℕ → List (List PlacedCell) → List (List Span) → List (List GridCell)
on_rows es places rows = map (λ (x : List PlacedCell × List Span). cells_on es x.0 x.1) (zip places rows)

none-on : (es : List ℕ) (places : List (List PlacedCell)) → on_rows es places [] ≡ []
none-on es [] = refl
none-on es (p ∷ ps) = refl

rows-on : (es : List ℕ) (row : ℕ) (hung : List PositionedCell) (rows : List (List Span)) →
    on_rows es (map (map (numbered es)) (rows_from row hung rows)) rows ≡ map (map (on_columns es)) (own_rows_from row hung rows)
rows-on es row hung [] = none-on es (map (map (numbered es)) (rows_from row hung []))
rows-on es row hung (cells ∷ more) =
    let own = own_from row 0 hung cells in
    let next = hanging (row + 1) (hung ++ own) in
    ap (λ r. r ∷ on_rows es (map (map (numbered es)) (rows_from (row + 1) next more)) more) (row-on es row hung cells)
    ∙ ap (λ r. map (on_columns es) own ∷ r) (rows-on es (row + 1) next more)

-- THE LAW: the grid with its cells is that of the own cells
pub cells-own : (rows : List (List Span)) → cell_grid_of rows ≡ own_grid_of rows
cells-own rows = elim (cases_Bool (positions_fit (placed_rows rows))) [
  | inl t ↦ rw t (ap (λ (r : List (List GridCell)). Some (record { edges = edges_of (placed_rows rows); rows = r }))
      (rows-on (edges_of (placed_rows rows)) 0 [] rows))
  | inr t ↦ rw t refl
]
