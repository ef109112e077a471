-- The characters that can be seen, in what a paragraph is fed and in its lines.
use Rattle.std.specs.Prelude.{ℕ, Bool, not, ◌||◌, ◌==◌, List, [], ◌∷◌, ◌++◌, flat_map, if◌then◌else◌}
use Rattle.std.specs.Char.{is_whitespace}
use Rattle.html_render_layout_lines.specs.declared.character.Item.{Item}
use Rattle.html_render_layout_lines.specs.declared.character.Item.TheVariants as item
use Rattle.html_render_layout_lines.specs.declared.line.Element.TheVariants as element
use Rattle.html_render_layout_lines.specs.Character.{has_no_width}
use Rattle.html_render_layout_lines.specs.Line.{Line}

-- a character can be seen if it is no white space, isn't U+200B, and has a width
unfoldable pub is_visible : ℕ → Bool
is_visible c = not (is_whitespace c || (c == 0x200B) || has_no_width c)

-- the character, if it can be seen
abbrev pub if_visible : ℕ → List ℕ
if_visible c = if is_visible c then c ∷ [] else []

-- the visible characters of what is fed, in order
abbrev pub visible_in_items : {T M : Type 0} → List (Item T M) → List ℕ
visible_in_items [] = []
visible_in_items (item.Character c ∷ xs) = if_visible c.code ++ visible_in_items xs
visible_in_items (item.Mark m ∷ xs) = visible_in_items xs

-- the visible characters of a line, in order
abbrev pub visible_in_line : {T M : Type 0} → Line T M → List ℕ
visible_in_line [] = []
visible_in_line (element.Character c tag ∷ es) = if_visible c ++ visible_in_line es
visible_in_line (element.Mark m ∷ es) = visible_in_line es

-- the visible characters of lines, line by line
abbrev pub visible_in_lines : {T M : Type 0} → List (Line T M) → List ℕ
visible_in_lines {T} {M} lines = flat_map (λ (l : Line T M). visible_in_line l) lines
