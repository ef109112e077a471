-- The picture row by row: a border waits for the row below it.
use Rattle.std.specs.Prelude.{◌++◌, Bool, false, List, [], ◌∷◌, Option, Some, None, fold, replicate, if◌then◌else◌}
use Rattle.html_render_layout_lines.specs.Line.{Line}
use Rattle.html_render_layout_buffer.specs.Marked.{marked_before}
use Rattle.html_render_layout_pictures.specs.declared.picture.Frame.{Frame}
use Rattle.html_render_layout_pictures.specs.Picture.{KeptCell, TableRow, is_drawn, waiting_in, separators_of, border, row_lines, has_top}

-- a border that is due: the marks before it, and the separators above it
pub record DueBorder (M : Type 0) : Type 0 where
  pub marks : List M
  pub above : List Bool

-- the drawing so far: its lines, the marks that wait after them, and the border that is due
pub record Drawing (T M : Type 0) : Type 0 where
  pub frame : Frame T
  pub lines : List (Line T M)
  pub waiting : List M
  pub due : Option (DueBorder M)

-- a border that is due, above a row with these separators
abbrev pub due_lines : {T M : Type 0} → Frame T → Option (DueBorder M) → (below : List Bool) → List (Line T M)
due_lines frame None below = []
due_lines frame (Some e) below = marked_before e.marks (border frame e.above below ∷ [])

-- the border that is due below a row
abbrev pub due_below : {T M : Type 0} → Frame T → (above : List Bool) → Option (DueBorder M)
due_below frame above = if frame.borders then Some (record { marks = []; above = above }) else None

-- drawing with the lines of a drawn row after the border that is due
abbrev pub with_cells : {T M : Type 0} → Drawing T M → List (KeptCell T M) → Drawing T M
with_cells d cells = record {
  frame = d.frame;
  lines = (d.lines ++ due_lines d.frame d.due (separators_of cells))
      ++ marked_before (d.waiting ++ waiting_in cells) (row_lines d.frame cells);
  waiting = [];
  due = due_below d.frame (separators_of cells);
}

-- with a row
abbrev pub with_row : {T M : Type 0} → Drawing T M → TableRow T M → Drawing T M
with_row d row = if is_drawn row then with_cells d row.cells else record d { waiting = d.waiting ++ waiting_in row.cells }

-- before the first row
abbrev pub begun : {T M : Type 0} → Frame T → (waiting : List M) → Drawing T M
begun frame waiting =
    if has_top frame
    then record { frame = frame; lines = []; waiting = []; due = Some (record { marks = waiting; above = replicate frame.width false }) }
    else record { frame = frame; lines = []; waiting = waiting; due = None }

abbrev pub with_rows : {T M : Type 0} → Drawing T M → List (TableRow T M) → Drawing T M
with_rows d rows = fold with_row d rows

-- the lines and the marks that wait after them, once the last border is drawn
abbrev pub finished : {T M : Type 0} → Drawing T M → List (Line T M) × List M
finished d = (d.lines ++ due_lines d.frame d.due [], d.waiting)

-- lines with those of a finished picture at their end, and the marks that wait after them
abbrev pub appended : {T M : Type 0} → List (Line T M) → List (Line T M) × List M → List (Line T M) × List M
appended lines p = (lines ++ p.0, p.1)
