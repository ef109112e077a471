-- The text of lines.
use Rattle.std.specs.Prelude.{ℕ, List, [], ◌∷◌, ◌++◌}
use Rattle.std.specs.List.{flat_map}
use Rattle.html_render_layout_lines.specs.Line.{Line, text_bytes}

-- THE TEXT of lines, in UTF-8: the characters of each line and a newline
abbrev pub text_of : {T M : Type 0} → List (Line T M) → List ℕ
text_of {T} {M} lines = flat_map (λ (l : Line T M). text_bytes l ++ 10 ∷ []) lines
