-- Characters that stand many times in a row.
use Rattle.std.specs.Prelude.{ℕ}
use Rattle.html_render_layout_pictures.specs.declared.borders.TheConstants.{BORDERS}
use Rattle.html_render_layout_pictures.specs.declared.gaps.Filler.{Filler}
use Rattle.html_render_layout_pictures.specs.declared.gaps.Filler.TheVariants.{Space, Slash, Dash}

-- the character of a filler: a space, a slash, or the dash of borders
abbrev pub character_of : Filler → ℕ
character_of Space = 0x20
character_of Slash = BORDERS.slash
character_of Dash = BORDERS.line
