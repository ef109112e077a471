-- The grid of a table: its edges, and the number of columns of each place.
use Rattle.std.specs.Prelude.{◌≡◌, ℕ, ◌-◌, ◌^◌, ◌<◌, ◌≤◌, Bool, All, Contains, List, [], ◌∷◌, Option, Some, None, map, flat_map, count_by, nat_lt, if◌then◌else◌}
use Rattle.std.specs.List.{list_all}
use Rattle.html_render_parts.specs.declared.table.Span.{Span}
use Rattle.html_render_parts.specs.declared.table.PlacedCell.{PlacedCell}
use Rattle.html_render_parts.specs.declared.table.TableGrid.{TableGrid}
use Rattle.html_render_parts.specs.declared.table.placement.Place.{Place}
use Rattle.html_render_parts.specs.Placement.{lists, placed_rows, rising}

-- whether each cell spans at least one column and one row
abbrev pub AreValid : List (List Span) → Type 0
AreValid rows = All (λ cells. All (λ s. (1 ≤ s.colspan) × (1 ≤ s.rowspan)) cells) rows

-- edges: 0 and the ends of all places, each once, rising
abbrev pub edges_of : List (List Place) → List ℕ
edges_of rows = rising (0 ∷ flat_map (λ r. map (λ p. p.end) r) rows)

-- number of an edge: the count of edges below it
abbrev pub rank : List ℕ → ℕ → ℕ
rank edges position = count_by (λ e. nat_lt e position) edges

-- a place with its number of columns: the number of its end minus that of its start
abbrev pub numbered : List ℕ → Place → PlacedCell
numbered edges p = record { kind = p.kind; start = p.start; end = p.end; columns = rank edges p.end - rank edges p.start }

-- grid of a table: its edges, and the places of each row; `None` if a place would end past 2^128 - 1
abbrev pub grid_of : List (List Span) → Option (List ℕ × List (List PlacedCell))
grid_of rows =
    let placed = placed_rows rows in
    let edges = edges_of placed in
    if list_all (list_all (λ p. nat_lt p.end (2 ^ 128))) placed then Some (edges, map (map (numbered edges)) placed) else None

-- edges and rows of a grid, as lists
abbrev pub shown : TableGrid → List ℕ × List (List PlacedCell)
shown g = (g.edges.items, lists g.rows.items)

-- whether places are side by side from a position on, each with an end after its start
abbrev pub AreSideBySide : ℕ → List PlacedCell → Type 0
AreSideBySide position [] = Unit {0}
AreSideBySide position (c ∷ cs) = (c.start ≡ position) × (c.start < c.end) × AreSideBySide c.end cs

-- ---- numberings in general

-- whether `number` gives smaller numbers to smaller edges
abbrev pub IsNumbering : List ℕ → (ℕ → ℕ) → Type 0
IsNumbering edges number = (a b : ℕ) → Contains edges a → Contains edges b → a < b → number a < number b

-- whether no numbering gives any edge a smaller number than `least`
abbrev pub IsLeastNumbering : List ℕ → (ℕ → ℕ) → Type 0
IsLeastNumbering edges least = (number : ℕ → ℕ) → IsNumbering edges number → (e : ℕ) → Contains edges e → least e ≤ number e
