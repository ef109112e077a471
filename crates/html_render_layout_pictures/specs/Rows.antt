-- A row line by line.
use Rattle.std.specs.Prelude.{ℕ, ◌-◌, List, [], ◌∷◌, ◌++◌, get_or, flat_map, map, if◌then◌else◌}
use Rattle.html_render_layout_lines.specs.declared.line.Element.{Element}
use Rattle.html_render_layout_lines.specs.declared.line.Element.TheVariants.{Character}
use Rattle.html_render_layout_lines.specs.Line.{Line, columns}
use Rattle.html_render_layout_buffer.specs.Lines.{BufferedLines}
use Rattle.html_render_layout_buffer.specs.Marked.{marked_behind}
use Rattle.html_render_layout_buffer.specs.Padding.{repeated}
use Rattle.html_render_layout_pictures.specs.declared.borders.TheConstants.{BORDERS}
use Rattle.html_render_layout_pictures.specs.declared.picture.Frame.{Frame}
use Rattle.html_render_layout_pictures.specs.Picture.{KeptCell}

-- the separator between two cells
abbrev pub separator : {T M : Type 0} → Frame T → Element T M
separator frame = Character (if frame.borders then BORDERS.separator else 0x20) frame.tag

-- a cell whose marks stand at the end of its last line
abbrev pub marked_cell : {T M : Type 0} → KeptCell T M → KeptCell T M
marked_cell c = record { width = c.width; lines = marked_behind c.marks c.lines; marks = [] }

-- the line of this number of a cell whose marks stand on its lines, or an empty one below them, filled up to the cell's width
abbrev pub filled_at : {T M : Type 0} → T → (number : ℕ) → KeptCell T M → Line T M
filled_at {T} {M} tag number c =
    let own : Line T M = get_or c.lines number [] in
    own ++ repeated tag 0x20 (c.width - columns own)

-- the row's line of this number, over such cells
abbrev pub row_line : {T M : Type 0} → Frame T → (number : ℕ) → List (KeptCell T M) → Line T M
row_line frame number [] = []
row_line {T} {M} frame number (c ∷ cs) =
    filled_at frame.tag number c ++ flat_map (λ (d : KeptCell T M). separator frame ∷ filled_at frame.tag number d) cs

-- what cells have on the row's line of this number after the first one
abbrev pub cells_behind : {T M : Type 0} → Frame T → (number : ℕ) → List (KeptCell T M) → Line T M
cells_behind {T} {M} frame number cs = flat_map (λ (d : KeptCell T M). separator frame ∷ filled_at frame.tag number d) (map marked_cell cs)

-- lines after those of a buffer, the first at the end of its open line
abbrev pub rows_put : {T M : Type 0} → BufferedLines T M → List (Line T M) → BufferedLines T M
rows_put b [] = b
rows_put b (l ∷ ls) = record { lines = b.lines ++ (b.line ++ l) ∷ ls; line = [] }
