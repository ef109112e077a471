-- The picture of a table whose cells are side by side: the lines of its rows, and the borders above, between and below them.
use Rattle.std.specs.Prelude.{ℕ, ◌-◌, ◌++◌, Bool, true, false, not, ◌&&◌, ◌||◌, ◌==◌, List, [], ◌∷◌, length, map, max, fold, get_or}
use Rattle.std.specs.Prelude.{flat_map, replicate, Some, if◌then◌else◌}
use Rattle.std.specs.List.{range_with_len, list_any}
use Rattle.html_render_layout_pictures.specs.declared.borders.TheConstants.{BORDERS}
use Rattle.html_render_layout_lines.specs.declared.line.Element.TheVariants.{Character}
use Rattle.html_render_layout_lines.specs.Line.{Line, is_empty}
use Rattle.html_render_layout_buffer.specs.Marked.{marked_before, marked_behind}
use Rattle.html_render_layout_buffer.specs.Padding.{filled}
use Rattle.html_render_layout_pictures.specs.declared.picture.Frame.{Frame}

-- a cell that is kept: its columns, its lines, and the marks that wait after them
pub record KeptCell (T M : Type 0) : Type 0 where
  pub width : ℕ
  pub lines : List (Line T M)
  pub marks : List M

-- a row: its kept cells, and whether a placeholder is among all of its cells
pub record TableRow (T M : Type 0) : Type 0 where
  pub cells : List (KeptCell T M)
  pub has_placeholder : Bool

-- ---- which rows are drawn, and which marks wait

-- a row is drawn if a kept cell has lines, or if a placeholder is among its cells and a cell is kept
abbrev pub is_drawn : {T M : Type 0} → TableRow T M → Bool
is_drawn {T} {M} row = list_any (λ (c : KeptCell T M). not (is_empty c.lines)) row.cells || (row.has_placeholder && not (is_empty row.cells))

-- the marks of cells without lines wait for a line, from left to right
abbrev pub waiting_in : {T M : Type 0} → List (KeptCell T M) → List M
waiting_in {T} {M} cells = flat_map (λ (c : KeptCell T M). if is_empty c.lines then c.marks else []) cells

-- the marks that still wait after the last drawn row
abbrev pub left_waiting : {T M : Type 0} → (waiting : List M) → List (TableRow T M) → List M
left_waiting {T} {M} waiting rows = fold (λ ms (r : TableRow T M). if is_drawn r then [] else ms ++ waiting_in r.cells) waiting rows

-- ---- separators of a row

-- for each column of a row whether it has a separator: there is one between two cells
abbrev pub separators_of : {T M : Type 0} → List (KeptCell T M) → List Bool
separators_of [] = []
separators_of {T} {M} (c ∷ cs) = replicate c.width false ++ flat_map (λ (d : KeptCell T M). true ∷ replicate d.width false) cs

-- those of the first of these rows that is drawn; none where none is
abbrev pub next_separators : {T M : Type 0} → List (TableRow T M) → List Bool
next_separators [] = []
next_separators (r ∷ rs) = if is_drawn r then separators_of r.cells else next_separators rs

-- the character of a border at a column, by whether the row above and the row below have a separator there
abbrev pub joint : (above below : Bool) → ℕ
joint true true = BORDERS.cross
joint true false = BORDERS.above
joint false true = BORDERS.below
joint false false = BORDERS.line

-- ---- lines

-- a row is as high as its highest cell, and at least 1
abbrev pub height : {T M : Type 0} → List (KeptCell T M) → ℕ
height {T} {M} cells = fold (λ h (c : KeptCell T M). max h (length c.lines)) 1 cells

-- the top border is drawn where the table has a width, also above no row
abbrev pub has_top : {T : Type 0} → Frame T → Bool
has_top frame = frame.borders && not (frame.width == 0)

module _ {T M : Type 0} (frame : Frame T) where
  -- a border, as wide as the wider of its neighbours
  abbrev pub border : (above below : List Bool) → Line T M
  border above below =
      map (λ x. Character (joint (get_or above x false) (get_or below x false)) frame.tag) (range_with_len 0 (max (length above) (length below)))

  -- a cell's lines, the last with the marks at its end, and empty lines below them; each is filled up to the cell's width
  abbrev pub cell_lines : (height : ℕ) → KeptCell T M → List (Line T M)
  cell_lines height c = filled (Some frame.tag) c.width (marked_behind c.marks c.lines ++ replicate (height - length c.lines) [])

  -- lines beside others, with a separator between them, which is a space without borders
  abbrev pub beside : List (Line T M) → List (Line T M) → List (Line T M)
  beside (l ∷ ls) (r ∷ rs) = (l ++ Character (if frame.borders then BORDERS.separator else 0x20) frame.tag ∷ r) ∷ beside ls rs
  beside lefts rights = lefts

  -- the lines of a row: those of its cells beside each other, from left to right
  abbrev pub row_lines : List (KeptCell T M) → List (Line T M)
  row_lines [] = []
  row_lines (c ∷ cs) = fold beside (cell_lines (height (c ∷ cs)) c) (map (cell_lines (height (c ∷ cs))) cs)

  -- the rows: the waiting marks precede one that is drawn, and the border below follows it; those of another wait for the next
  abbrev pub rows_lines : (waiting : List M) → List (TableRow T M) → List (Line T M)
  rows_lines waiting [] = []
  rows_lines waiting (r ∷ rs) =
      let marks = waiting ++ waiting_in r.cells in
      let below : List (Line T M) = if frame.borders then border (separators_of r.cells) (next_separators rs) ∷ [] else [] in
      if is_drawn r then marked_before marks (row_lines r.cells) ++ below ++ rows_lines [] rs else rows_lines marks rs

  -- the picture's lines: the rows, below the border above the first
  abbrev pub picture_lines : (waiting : List M) → List (TableRow T M) → List (Line T M)
  picture_lines waiting rows =
      if has_top frame then marked_before waiting (border (replicate frame.width false) (next_separators rows) ∷ rows_lines [] rows)
      else rows_lines waiting rows

  -- THE PICTURE of rows after waiting marks: its lines, and the marks that still wait after them
  abbrev pub picture : (waiting : List M) → List (TableRow T M) → List (Line T M) × List M
  picture waiting rows = (picture_lines waiting rows, left_waiting (if has_top frame then [] else waiting) rows)
