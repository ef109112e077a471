-- A word that fits on a line and is appended to it as a whole.
use Rattle.std.specs.Prelude.{◌≡◌, Bool, List, [], ◌∷◌, ◌++◌, map}
use Rattle.html_render_layout_lines.specs.declared.character.Character.{Character}
use Rattle.html_render_layout_lines.specs.declared.character.Item.{Item}
use Rattle.html_render_layout_lines.specs.declared.character.Item.TheVariants as item
use Rattle.html_render_layout_lines.specs.declared.line.Element.TheVariants as element
use Rattle.html_render_layout_lines.specs.Line.{Line}
use Rattle.html_render_layout_paragraphs.specs.Paragraph.{LineBuffer}
use Rattle.html_render_layout_lines.specs.Character.{tag_on}

-- Line with the characters of a word appended, each after the marks that wait for it.
abbrev pub line_with_word : {T M : Type 0} → Bool → Line T M → List M → List (Item T M) → Line T M
line_with_word continues line marks [] = line
line_with_word {T} {M} continues line marks (item.Character c ∷ xs) =
    line_with_word continues (line ++ (map (λ (m : M). element.Mark m) marks ++ element.Character c.code (tag_on continues c) ∷ [])) [] xs
line_with_word continues line marks (item.Mark m ∷ xs) = line_with_word continues line (marks ++ m ∷ []) xs

-- Marks that still wait after a word, since none of its characters follows them.
abbrev pub marks_behind_word : {T M : Type 0} → List M → List (Item T M) → List M
marks_behind_word marks [] = marks
marks_behind_word marks (item.Character c ∷ xs) = marks_behind_word [] xs
marks_behind_word marks (item.Mark m ∷ xs) = marks_behind_word (marks ++ m ∷ []) xs

-- Line buffer with a word on its open line.
abbrev pub with_word : {T M : Type 0} → LineBuffer T M → List (Item T M) → LineBuffer T M
with_word page word = record page {
  line = line_with_word page.continues page.line page.waiting word;
  waiting = marks_behind_word page.waiting word;
}

-- Whether a word ends with a character, so that no mark waits after it.
abbrev pub EndsInCharacter : {T M : Type 0} → List (Item T M) → Type 0
EndsInCharacter {T} {M} word = (front : List (Item T M)) × (c : Character T) × (word ≡ front ++ item.Character c ∷ [])
