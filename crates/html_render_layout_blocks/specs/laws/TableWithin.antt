-- Rows of a table whose cells are side by side keep to the width of the block.
use Rattle.std.proofs.Common.{◌≡◌, ℕ, ◌+◌, ◌-◌, ◌≤◌, ◌==◌, Bool, true, false, not, cond, List, [], ◌∷◌, ◌++◌, length, sum, take, drop, find, Option, Some, None, option_and_then}
use Rattle.std.proofs.Common.{refl, ap, arith, All, sum_by, count_by, length-append}
use Rattle.std.proofs.lemmas.List.{take-append-drop}
use Rattle.std.proofs.lemmas.List.Elements.{All-nil, All-cons, All-append}
use Rattle.std.proofs.lemmas.List.Sums.{sum_by-cons, sum_by-append, count_by-le-length}
use Rattle.std.specs.List.{position_or_len}
use Rattle.html_render_layout_lines.specs.Line.{Line, columns}
use Rattle.html_render_parts.specs.declared.table.PlacedCell.{PlacedCell}
use Rattle.html_render_layout_pictures.specs.Picture.{KeptCell}
use Rattle.html_render_layout_pictures.specs.Widths.{row_width, KeepsToWidth, RowWithin}
use Rattle.html_render_layout_blocks.specs.declared.block.rows.RowPlace.{RowPlace}
use Rattle.html_render_layout_blocks.specs.OpenRows.{OpenRow, cell_width, places, next_width, empty_cells}
use Rattle.html_render_layout_blocks.specs.RowSteps.{after_cell, before_cell, empty_cell}
use Rattle.html_render_layout_blocks.specs.laws.NextCells.{after-past, before-past}
use Rattle.html_render_layout_blocks.specs.OpenRows.{open_row, past_cell, whole_row}

-- Columns of cells, each with a separator.
abbrev pub cells_room : {T M : Type 0} → List (KeptCell T M) → ℕ
cells_room {T} {M} cells = sum_by (λ (c : KeptCell T M). 1 + c.width) cells

-- Columns of a place with a separator. 0 if the place is skipped.
abbrev pub place_room : Option ℕ → ℕ
place_room None = 0
place_room (Some width) = 1 + width

-- Columns of places, each with a separator, except for skipped ones.
abbrev pub places_room : List RowPlace → ℕ
places_room [] = 0
places_room (p ∷ ps) = place_room p.width + places_room ps

-- Widths of a table's columns, each with a separator.
abbrev pub columns_room : List ℕ → ℕ
columns_room widths = sum widths + length widths

-- Whether the lines of a row's cells keep to their cells, and the cells and the places ahead keep to a width.
abbrev pub OpenWithin : {T M : Type 0} → ℕ → OpenRow T M → Type 0
OpenWithin w r = All KeepsToWidth r.cells × (cells_room r.cells + places_room r.ahead ≤ w + 1)

-- ---- Places of a row

columns-parted : (n : ℕ) (ws : List ℕ) → columns_room (take n ws) + columns_room (drop n ws) ≡ columns_room ws
columns-parted n ws =
    let whole = take-append-drop n ws in
    omega (
      arith,
      ap sum whole,
      sum_by-append (λ x. x) (take n ws) (drop n ws),
      ap length whole,
      length-append (take n ws) (drop n ws),
    )

cell-room : (ws : List ℕ) → place_room (cell_width ws) ≤ columns_room ws
cell-room [] = omega arith
cell-room (w ∷ ws) = by (sum (w ∷ ws) == 0)
  where
    by : (b : Bool) → place_room (cond b None (Some (sum (w ∷ ws) + (length (w ∷ ws) - 1)))) ≤ columns_room (w ∷ ws)
    by true = omega arith
    by false = omega arith

places-within : (ws : List ℕ) (cells : List PlacedCell) → places_room (places ws cells) ≤ columns_room ws
places-within ws [] = omega arith
places-within ws (s ∷ ss) =
    let front = cell-room (take s.columns ws) in
    let rest = places-within (drop s.columns ws) ss in
    let all = columns-parted s.columns ws in
    omega (arith, front, rest, all)

-- The columns of a row's places are those before the next cell, that cell's, and those after it.
places-parted : (ps : List RowPlace) →
    places_room ps ≡ places_room (before_cell ps) + place_room (next_width ps) + places_room (after_cell ps)
places-parted [] = refl
places-parted (p ∷ ps) = by p.is_cell (places-parted ps)
  where
    by : (b : Bool) → places_room ps ≡ places_room (before_cell ps) + place_room (next_width ps) + places_room (after_cell ps) →
        (let n = cond (not b) (1 + position_or_len (λ (q : RowPlace). q.is_cell) ps) 0 in
        place_room p.width + places_room ps
        ≡ places_room (take n (p ∷ ps)) + place_room (option_and_then (λ (q : RowPlace). q.width) (cond b (Some p) (find (λ (q : RowPlace). q.is_cell) ps)))
        + places_room (drop (n + 1) (p ∷ ps)))
    by true h = omega arith
    by false h = omega (arith, h, ap places_room (before-past p ps), ap places_room (after-past p ps))

module _ {T M : Type 0} where
  -- Empty cells of places keep to their widths, and are as wide as the places.
  empties-within : (ps : List RowPlace) → All (KeepsToWidth {T = T} {M = M}) (empty_cells ps) × (cells_room (empty_cells {T = T} {M = M} ps) ≡ places_room ps)
  empties-within [] = (All-nil KeepsToWidth, refl)
  empties-within (p ∷ ps) = by p.width (empties-within ps)
    where
      by : (o : Option ℕ) → All (KeepsToWidth {T = T} {M = M}) (empty_cells ps) × (cells_room (empty_cells {T = T} {M = M} ps) ≡ places_room ps) →
          All (KeepsToWidth {T = T} {M = M}) (empty_cell o ++ empty_cells ps)
          × (cells_room (empty_cell {T = T} {M = M} o ++ empty_cells ps) ≡ place_room o + places_room ps)
      by None h = (h.0, omega (arith, h.1))
      by (Some width) h =
          let blank : KeptCell T M = record { width = width; lines = []; marks = [] } in (
            All-cons KeepsToWidth blank (empty_cells ps) (All-nil (λ (l : Line T M). columns l ≤ width)) h.0,
            omega (arith, h.1, sum_by-cons (λ (c : KeptCell T M). 1 + c.width) blank (empty_cells ps)),
          )

  -- ---- Rows

  row-within : (w : ℕ) (cells : List (KeptCell T M)) → cells_room cells ≤ w + 1 → row_width cells ≤ w
  row-within w [] h = omega arith
  row-within w (c ∷ cs) h = omega (arith, h, sum_by-cons (λ (c : KeptCell T M). 1 + c.width) c cs)

  -- A row that begins keeps to the width.
  pub open-within : (w : ℕ) (ws : List ℕ) (cells : List PlacedCell) → columns_room ws ≤ w + 1 → OpenWithin w (open_row {T = T} {M = M} ws cells)
  open-within w ws cells h = (All-nil KeepsToWidth, omega (arith, h, places-within ws cells))

  -- A row keeps to the width with a cell that keeps to its place.
  pub cell-within : (w : ℕ) (r : OpenRow T M) (cell : List (KeptCell T M)) → OpenWithin w r → All KeepsToWidth cell →
      cells_room cell ≤ place_room (next_width r.ahead) → OpenWithin w (past_cell r cell)
  cell-within w r cell h keeps room =
      let before : List (KeptCell T M) = empty_cells (before_cell r.ahead) in
      let blank = empties-within (before_cell r.ahead) in
      let n = h.1 in (
        All-append KeepsToWidth (r.cells ++ before) cell (All-append KeepsToWidth r.cells before h.0 blank.0) keeps,
        omega (
          arith,
          n,
          room,
          places-parted r.ahead,
          blank.1,
          sum_by-append (λ (c : KeptCell T M). 1 + c.width) (r.cells ++ before) cell,
          sum_by-append (λ (c : KeptCell T M). 1 + c.width) r.cells before,
        ),
      )

  pub whole-within : (w : ℕ) (r : OpenRow T M) → OpenWithin w r → RowWithin w (whole_row r)
  whole-within w r h =
      let blank = empties-within r.ahead in (
        All-append KeepsToWidth r.cells (empty_cells r.ahead) h.0 blank.0,
        row-within w (r.cells ++ empty_cells r.ahead)
            (omega (arith, h.1, blank.1, sum_by-append (λ (c : KeptCell T M). 1 + c.width) r.cells (empty_cells r.ahead))),
      )

-- The width of a table is at most that of its columns and all separators between them.
pub frame_width_within : (ws : List ℕ) → sum ws + (count_by (λ w. not (w == 0)) ws - 1) ≤ sum ws + (length ws - 1)
frame_width_within ws = omega (arith, count_by-le-length (λ w. not (w == 0)) ws)

pub columns_room-within : (w : ℕ) (ws : List ℕ) → sum ws + (length ws - 1) ≤ w → columns_room ws ≤ w + 1
columns_room-within w ws h = omega (arith, h)
