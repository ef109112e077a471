-- Marks at the ends of lines.
use Rattle.std.specs.Prelude.{List, [], ◌∷◌, ◌++◌}
use Rattle.html_render_layout_lines.specs.Line.{Line, marks_line}

-- marks at the end of the last line
abbrev pub marked_behind : {T M : Type 0} → List M → List (Line T M) → List (Line T M)
marked_behind ms [] = []
marked_behind ms (l ∷ []) = (l ++ marks_line ms) ∷ []
marked_behind ms (l ∷ k ∷ ls) = l ∷ marked_behind ms (k ∷ ls)

-- marks at the front of the first line
abbrev pub marked_before : {T M : Type 0} → List M → List (Line T M) → List (Line T M)
marked_before ms [] = []
marked_before ms (l ∷ ls) = (marks_line ms ++ l) ∷ ls
