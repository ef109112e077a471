-- The lines of a layout, with annotations as tags.
use Rattle.std.specs.Prelude.{ℕ, List}
use Rattle.html_render_layout_lines.specs.Line.{Line}
use Rattle.html_render_layout_lines.specs.Tags.{lines_with}
use Rattle.html_render_layout_tagged.specs.Stacks.{stack_at}
use Rattle.html_render_layout_tagged.specs.declared.laid_out.LaidOut.{LaidOut}

-- lines with each tag replaced by its annotation stack
abbrev pub tagged : {A : Type 0} → List (List A) → List (Line ℕ ℕ) → List (Line (List A) ℕ)
tagged stacks lines = lines_with (stack_at stacks) lines

abbrev pub laid_out : {A : Type 0} → LaidOut A → List (Line (List A) ℕ)
laid_out l = tagged l.stacks l.lines
