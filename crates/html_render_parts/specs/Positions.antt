-- Ends of places, and whether they are in range; and whether a cell hangs into a row.
use Rattle.std.specs.Prelude.{ℕ, ◌^◌, Bool, List, map, flat_map, nat_lt}
use Rattle.std.specs.List.{list_all}
use Rattle.html_render_parts.specs.declared.table.placement.Place.{Place}
use Rattle.html_render_parts.specs.declared.table.placement.PositionedCell.{PositionedCell}
use Rattle.html_render_parts.specs.Placement.{end_of}

-- whether a cell's last row is `row` or below it
abbrev pub hangs_into : ℕ → PositionedCell → Bool
hangs_into row c = nat_lt row (end_of c)

-- ends of all places, in order of rows
abbrev pub ends : List (List Place) → List ℕ
ends rows = flat_map (λ r. map (λ p. p.end) r) rows

-- whether each place ends below 2^128
abbrev pub positions_fit : List (List Place) → Bool
positions_fit placed = list_all (list_all (λ p. nat_lt p.end (2 ^ 128))) placed
