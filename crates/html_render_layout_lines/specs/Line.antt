-- A line, how wide it is, and its text.
use Rattle.std.specs.Prelude.{ℕ, Bool, ◌==◌, ◌≤◌, length, List, [], All, map, sum_by, encode_utf8}
use Rattle.std.specs.List.{flat_map}
use Rattle.html_render_layout_lines.specs.declared.character.Item.{Item}
use Rattle.html_render_layout_lines.specs.declared.character.Item.TheVariants as item
use Rattle.html_render_layout_lines.specs.declared.line.Element.{Element}
use Rattle.html_render_layout_lines.specs.declared.line.Element.TheVariants as element
use Rattle.html_render_layout_lines.specs.Character.{width_of, tag_on}

abbrev pub is_empty : {X : Type 0} → List X → Bool
is_empty xs = length xs == 0

-- a line is a list of tagged characters and marks
abbrev pub Line : Type 0 → Type 0 → Type 0
Line T M = List (Element T M)

abbrev pub element_width : {T M : Type 0} → Element T M → ℕ
element_width (element.Character c tag) = width_of c
element_width (element.Mark m) = 0

-- the columns of a line, counted character by character
abbrev pub columns : {T M : Type 0} → Line T M → ℕ
columns {T} {M} line = sum_by (λ (e : Element T M). element_width e) line

abbrev pub item_width : {T M : Type 0} → Item T M → ℕ
item_width (item.Character c) = width_of c.code
item_width (item.Mark m) = 0

abbrev pub word_columns : {T M : Type 0} → List (Item T M) → ℕ
word_columns {T} {M} word = sum_by (λ (x : Item T M). item_width x) word

-- no line is wider
abbrev pub AllWithinWidth : {T M : Type 0} → ℕ → List (Line T M) → Type 0
AllWithinWidth {T} {M} width lines = All (λ (l : Line T M). columns l ≤ width) lines

-- a line of marks alone
abbrev pub marks_line : {T M : Type 0} → List M → Line T M
marks_line {T} {M} ms = map (λ (m : M). element.Mark m) ms

-- the bytes of what a line holds, in UTF-8: a mark is not shown
abbrev pub bytes_of : {T M : Type 0} → Element T M → List ℕ
bytes_of (element.Character c tag) = encode_utf8 c
bytes_of (element.Mark m) = []

-- the bytes of a line's characters
abbrev pub text_bytes : {T M : Type 0} → Line T M → List ℕ
text_bytes {T} {M} line = flat_map (λ (e : Element T M). bytes_of e) line

-- what stands on a line for a part of a word
abbrev pub element_of : {T M : Type 0} → Bool → Item T M → Element T M
element_of continues (item.Character c) = element.Character c.code (tag_on continues c)
element_of continues (item.Mark m) = element.Mark m
