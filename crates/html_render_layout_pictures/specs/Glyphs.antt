-- Characters that draw tables.
use Rattle.std.specs.Prelude.{ℕ, List, [], ◌∷◌}
use Rattle.html_render_layout_pictures.specs.declared.borders.TheConstants.{BORDERS}
use Rattle.html_render_layout_pictures.specs.declared.borders.Borders.{Borders}

-- code points of the border characters: ┼ has separators above and below, ┴ above only, ┬ below only, and ─ none;
-- │ separates cells side by side, and a line of / separates stacked cells
abbrev pub border_characters : Borders
border_characters = record { cross = 0x253C; above = 0x2534; below = 0x252C; line = 0x2500; separator = 0x2502; slash = 0x2F }

-- code points of the space and of the border characters
abbrev pub glyphs : List ℕ
glyphs = 0x20 ∷ BORDERS.cross ∷ BORDERS.above ∷ BORDERS.below ∷ BORDERS.line ∷ BORDERS.separator ∷ BORDERS.slash ∷ []
