-- A map of tags, put onto all that a picture is made of.
use Rattle.std.specs.Prelude.{List, map}
use Rattle.html_render_layout_lines.specs.Line.{Line}
use Rattle.html_render_layout_lines.specs.Tags.{lines_with}
use Rattle.html_render_layout_pictures.specs.declared.picture.Frame.{Frame}
use Rattle.html_render_layout_pictures.specs.Picture.{KeptCell, TableRow}
use Rattle.html_render_layout_pictures.specs.Drawing.{Drawing}

module _ {T U M : Type 0} (f : T → U) where
  abbrev pub cell_with : KeptCell T M → KeptCell U M
  cell_with c = record { width = c.width; lines = lines_with f c.lines; marks = c.marks }

  abbrev pub row_with : TableRow T M → TableRow U M
  row_with r = record { cells = map cell_with r.cells; has_placeholder = r.has_placeholder }

abbrev pub frame_with : {T U : Type 0} → (T → U) → Frame T → Frame U
frame_with f frame = record { borders = frame.borders; width = frame.width; tag = f frame.tag }

module _ {T U M : Type 0} (f : T → U) where
  abbrev pub drawing_with : Drawing T M → Drawing U M
  drawing_with d = record { frame = frame_with f d.frame; lines = lines_with f d.lines; waiting = d.waiting; due = d.due }

  -- the lines of a picture, and the marks that wait behind it
  abbrev pub drawn_with : List (Line T M) × List M → List (Line U M) × List M
  drawn_with p = (lines_with f p.0, p.1)
