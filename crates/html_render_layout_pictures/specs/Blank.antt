-- The blank text of a row: what stands on a line of the row where none of its cells has a line.
use Rattle.std.specs.Prelude.{◌≡◌, ℕ, ◌≤◌, Bool, List, ◌∷◌, ◌++◌, cond, length, take, drop, replicate}
use Rattle.std.specs.List.{flat_map}
use Rattle.std.specs.Str.{chars, IsUtf8}
use Rattle.html_render_layout_pictures.specs.declared.borders.TheConstants.{BORDERS}
use Rattle.html_render_layout_lines.specs.TaggedText.{text_columns, under}
use Rattle.html_render_layout_buffer.specs.Lines.{BufferedLines}
use Rattle.html_render_layout_pictures.specs.declared.cells.RowCell.{RowCell}

-- a cell behind a separator
abbrev pub blank_cell : (borders : Bool) (width : ℕ) → List ℕ
blank_cell borders width = cond borders BORDERS.separator 0x20 ∷ replicate width 0x20

-- cells behind others
abbrev pub blank_cells : {M : Type 0} → (borders : Bool) → List (RowCell M) → List ℕ
blank_cells {M} borders cells = flat_map (λ (c : RowCell M). blank_cell borders c.width) cells

-- what of a text is due, and what stands behind that
pub record BlankText : Type 0 where
  pub due : List ℕ
  pub after : List ℕ

-- what the first `due` bytes of a text are, if those are due
abbrev pub blank_at : (text : List ℕ) (due : ℕ) → BlankText
blank_at text due = record { due = chars (take due text); after = chars (drop due text) }

-- the first `due` bytes of a text are characters of `columns` columns, and so many bytes or fewer
pub record IsPlace (text : List ℕ) (due columns : ℕ) : Type 0 where
  pub within : due ≤ length text
  pub before : IsUtf8 (take due text)
  pub behind : IsUtf8 (drop due text)
  pub counted : columns ≡ text_columns (chars (take due text))
  pub few : columns ≤ due

-- lines, of which the open one ends with what is due
abbrev pub with_due : {T M : Type 0} → BufferedLines T M → T → (due : List ℕ) → BufferedLines T M
with_due b tag due = record { lines = b.lines; line = b.line ++ under tag due }
