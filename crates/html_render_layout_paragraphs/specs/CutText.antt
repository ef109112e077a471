-- THE DEFINITION of a text that is cut into lines exactly where a line is full. White space is kept as it is, and words
-- are cut too.
use Rattle.std.specs.Prelude.{ℕ, ◌+◌, ◌<◌, Bool, true, false, List, [], ◌∷◌, ◌++◌, Option, Some, option_map}
use Rattle.html_render_dom_values.specs.declared.white_space.WhiteSpace.TheVariants.{Pre}
use Rattle.html_render_layout_lines.specs.declared.character.TextStyle.{TextStyle}
use Rattle.html_render_layout_lines.specs.Line.{Line, columns, element_width}
use Rattle.html_render_layout_paragraphs.specs.Paragraph.{LineBuffer, Setting, empty_buffer, put_items}
use Rattle.html_render_layout_paragraphs.specs.Stream.{styled}
use Rattle.html_render_layout_lines.specs.TaggedText.{under}

-- Style of a text whose white space is preserved and that has one tag on all lines.
abbrev pub kept_style : {T : Type 0} → T → TextStyle T
kept_style tag = record { mode = Pre; tag = tag; continuation_tag = tag }

-- Lines of a text, at least one. With `cut` each line has the longest leading part of the rest that fits; otherwise the
-- text is one line. None, with `cut` and overflow off, if a character is wider than a line.
abbrev pub text_lines : {T M : Type 0} → Setting → (cut : Bool) → T → List ℕ → Option (List (Line T M))
text_lines {T} {M} setting true tag cs =
    option_map (λ (p : LineBuffer T M). p.lines ++ p.line ∷ []) (put_items setting (empty_buffer []) (styled (kept_style tag) cs))
text_lines setting false tag cs = Some (under tag cs ∷ [])

-- ---- Properties of these lines

-- Lines joined into one, in order.
abbrev pub together : {T M : Type 0} → List (Line T M) → Line T M
together [] = []
together (l ∷ ls) = l ++ together ls

-- Whether each line is full: what the next line begins with doesn't fit on it.
abbrev pub AreLongest : {T M : Type 0} → (width : ℕ) → List (Line T M) → Type 0
AreLongest width [] = Unit {0}
AreLongest width (l ∷ []) = Unit {0}
AreLongest width (l ∷ [] ∷ ls) = ⊥
AreLongest width (l ∷ (e ∷ es) ∷ ls) = (width < columns l + element_width e) × AreLongest width ((e ∷ es) ∷ ls)
