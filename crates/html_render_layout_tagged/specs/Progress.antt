-- Grouping of a line from its start: the finished elements, and the last string, which more text may join.
use Rattle.std.specs.Prelude.{◌≡◌, ℕ, Bool, List, [], ◌∷◌, ◌++◌, Option, Some, None, string_bytes}
use Rattle.std.specs.Str.{chars}
use Rattle.std.specs.Cmp.Lexicographic.{pointwise}
use Rattle.html_render_layout_lines.specs.Line.{Line}
use Rattle.html_render_layout_lines.specs.Tags.{line_with}
use Rattle.html_render_layout_tagged.specs.Stacks.{stack_at}
use Rattle.html_render_layout_tagged.specs.declared.grouping.OpenString.{OpenString}
use Rattle.html_render_layout_tagged.specs.declared.grouping.Progress.{Progress}
use Rattle.html_render_layout_tagged.specs.Grouping.{LinePart, Str, in_front, grouped, pieces_of}

-- the last string as a finished piece
abbrev pub closed : {A : Type 0} → (stacks : List (List A)) → Option OpenString → List (LinePart (List A))
closed stacks None = []
closed stacks (Some o) = Str (chars (string_bytes o.text)) (stack_at stacks o.tag) ∷ []

module _ {A : Type 0} (eq : A → A → Bool) (stacks : List (List A)) where
  -- the last string put before the pieces that follow it
  abbrev pub last_in_front : Option OpenString → List (LinePart (List A)) → List (LinePart (List A))
  last_in_front None ps = ps
  last_in_front (Some o) ps = in_front (pointwise eq) (chars (string_bytes o.text)) (stack_at stacks o.tag) ps

  -- all pieces of a line under construction, if pieces `ps` follow
  abbrev pub pieces_with : Progress A → List (LinePart (List A)) → List (LinePart (List A))
  pieces_with made ps = pieces_of made.done.items ++ last_in_front made.last ps

  -- whether appending the elements `es` to `before` gives `now`: for all later elements, both lead to the same pieces
  abbrev pub Takes : (names : List (List ℕ)) → (before : Progress A) → Line ℕ ℕ → (now : Progress A) → Type 0
  Takes names before es now = (more : Line ℕ ℕ) →
      pieces_with now (grouped (pointwise eq) names (line_with (stack_at stacks) more))
      ≡ pieces_with before (grouped (pointwise eq) names (line_with (stack_at stacks) (es ++ more)))
