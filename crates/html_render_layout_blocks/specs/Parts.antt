-- Paragraphs and pictures as a block uses them.
use Rattle.std.specs.Prelude.{List, Option}
use Rattle.html_render_layout_lines.specs.declared.character.Item.{Item}
use Rattle.html_render_layout_lines.specs.Line.{Line}
use Rattle.html_render_layout_paragraphs.specs.Paragraph.{Setting, LineBuffer}
use Rattle.html_render_layout_pictures.specs.declared.picture.Frame.{Frame}
use Rattle.html_render_layout_pictures.specs.Picture.{TableRow}

-- P are the paragraphs and R the pictures. `waiting` is used only for a paragraph to which nothing is fed.
pub record Parts (P R T M : Type 0) : Type 0 where
  pub start : Setting → (waiting : List M) → P
  pub feed : P → List (Item T M) → P
  pub finish : P → Option (LineBuffer T M)  -- None if it is too narrow
  pub next : P → (waiting : List M) → P  -- an empty paragraph of the same setting
  pub waiting : P → List M
  pub without_waiting : P → P
  pub begun : Frame T → (waiting : List M) → R  -- a picture without rows
  pub with_row : R → TableRow T M → R
  pub drawn : R → List (Line T M) × List M  -- its lines, and the marks that wait after them
