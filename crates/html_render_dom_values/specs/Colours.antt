-- The text of a colour: `#` and two hexadecimal digits for each part.
use Rattle.std.specs.Prelude.{ℕ, ◌+◌, ◌/◌, ◌%◌, nat_lt, if◌then◌else◌, List, [], ◌∷◌, ◌++◌, codes}
use Rattle.html_render_dom_values.specs.declared.colours.Colour.{Colour}

-- code point of a lower-case hexadecimal digit: 48 is `0`, 97 is `a`
abbrev pub hex_digit : ℕ → ℕ
hex_digit d = if nat_lt d 10 then 48 + d else 87 + d

-- two hexadecimal digits of a byte
abbrev pub hex_byte : ℕ → List ℕ
hex_byte n = hex_digit (n / 16) ∷ hex_digit (n % 16) ∷ []

abbrev pub written_colour : Colour → List ℕ
written_colour c = codes "#" ++ hex_byte c.r ++ hex_byte c.g ++ hex_byte c.b
