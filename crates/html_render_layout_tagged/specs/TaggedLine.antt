-- Strings and columns of a tagged line.
use Rattle.std.specs.Prelude.{ℕ, ◌≤◌, List, [], ◌∷◌, All, sum_by, string_bytes}
use Rattle.std.specs.Str.{chars}
use Rattle.html_render_layout_lines.specs.TaggedText.{text_columns}
use Rattle.html_render_layout_tagged.specs.declared.line.TaggedString.{TaggedString}
use Rattle.html_render_layout_tagged.specs.declared.line.TaggedLineElement.{TaggedLineElement}
use Rattle.html_render_layout_tagged.specs.declared.line.TaggedLineElement.TheVariants.{Str, FragmentStart}

-- strings of a line, without the fragment starts
abbrev pub strings_of : {T : Type 0} → List (TaggedLineElement T) → List (TaggedString T)
strings_of [] = []
strings_of (Str s ∷ es) = s ∷ strings_of es
strings_of (FragmentStart name ∷ es) = strings_of es

-- columns of an element: those of a string's characters, and 0 for a fragment start
abbrev pub element_columns : {T : Type 0} → TaggedLineElement T → ℕ
element_columns (Str s) = text_columns (chars (string_bytes s.s))
element_columns (FragmentStart name) = 0

abbrev pub line_columns : {T : Type 0} → List (TaggedLineElement T) → ℕ
line_columns {T} line = sum_by (λ (e : TaggedLineElement T). element_columns e) line

-- whether no line has more than `width` columns
abbrev pub AllTaggedWithinWidth : {T : Type 0} → (width : ℕ) → List (List (TaggedLineElement T)) → Type 0
AllTaggedWithinWidth {T} width lines = All (λ (l : List (TaggedLineElement T)). line_columns l ≤ width) lines
