-- Placed rows have the grid's places, and their refusal is the grid's.
use Rattle.std.proofs.Common.{◌≡◌, ℕ, List, Some, map, All, refl, inl, inr}
use Rattle.std.specs.Global.{Vec}
use Rattle.std.proofs.lemmas.Bool.{cases_Bool}
use Rattle.std.proofs.lemmas.List.Elements.{All-map}
use Rattle.html_render_dom_values.specs.declared.errors.Error.{Error}
use Rattle.html_render_dom_values.specs.declared.errors.Error.TheVariants.{TooNarrow, Fail, OutOfMemory}
use Rattle.html_render_parts.specs.declared.table.Span.{Span}
use Rattle.html_render_parts.specs.declared.table.PlacedCell.{PlacedCell}
use Rattle.html_render_parts.specs.declared.table.placement.Place.{Place}
use Rattle.html_render_parts.specs.Placement.{lists, placed_rows}
use Rattle.html_render_parts.specs.PlacementSteps.{fitting_positions}
use Rattle.html_render_parts.specs.Grid.{AreValid, edges_of, grid_of, numbered}
use Rattle.html_render_parts.specs.Positions.{positions_fit}
use Rattle.html_render_parts.specs.Refusal.{Fails}
use Rattle.html_render_parts.proofs.SideBySide.{Valid}
use Rattle.html_render_parts.proofs.Vectors.{All-unmap}

-- edges and numbered rows of placed rows
abbrev grid_on : List (List Place) → List ℕ × List (List PlacedCell)
grid_on placed = (edges_of placed, map (map (numbered (edges_of placed))) placed)

-- placed rows are those of the definition, and the table has a grid
pub made : (rows : List (List Span)) (placed : List (List Place)) → fitting_positions (placed_rows rows) ≡ Some placed →
    (placed ≡ placed_rows rows) × (grid_of rows ≡ Some (grid_on (placed_rows rows)))
made rows placed e = elim (cases_Bool (positions_fit (placed_rows rows))) [
  | inl t ↦ let f = rw t at e in (cc, rw t refl)
  | inr t ↦ let f = rw t at e in cc
]

-- an error of placing the rows is one of the grid
pub refused : (e : Error) (rows : List (List Span)) → Fails e (fitting_positions (placed_rows rows)) → Fails e (grid_of rows)
refused TooNarrow rows h = h
refused OutOfMemory rows h = tt
refused Fail rows h = elim (cases_Bool (positions_fit (placed_rows rows))) [ inl t ↦ let f = rw t at h in cc | inr t ↦ rw t refl ]

-- ---- spans, in vectors and in lists

pub AreValid-lists : (vs : List (Vec Span)) → All (λ v. All Valid v.items) vs → AreValid (lists vs)
AreValid-lists vs h = All-map (All Valid) (λ (v : Vec Span). v.items) vs h

pub AreValid-vectors : (vs : List (Vec Span)) → AreValid (lists vs) → All (λ v. All Valid v.items) vs
AreValid-vectors vs h = All-unmap (All Valid) (λ (v : Vec Span). v.items) vs h
