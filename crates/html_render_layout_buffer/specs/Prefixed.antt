-- Lines after prefixes.
use Rattle.std.specs.Prelude.{List, [], ◌∷◌, ◌++◌, map}
use Rattle.html_render_layout_lines.specs.Line.{Line}

-- Lines after prefixes: the first line after one, the later lines after another.
abbrev pub prefixed : {T M : Type 0} → Line T M → Line T M → List (Line T M) → List (Line T M)
prefixed first later [] = []
prefixed first later (l ∷ ls) = (first ++ l) ∷ map (◌++◌ later) ls
