use Rattle.std.proofs.Common.{ℕ, ◌++◌, List, length, string_bytes}
use Rattle.html_render_layout_tagged.specs.Grouping.{lines_of}
use Rattle.html_render_layout_tagged.specs.Colouring.{IsColoured}
use Rattle.html_render_layout_tagged.proofs.colours.coloured.Given as goal

-- the calls for the other lines, and a text of them, complete those for all lines, and their text
abbrev pub invariant-loop-line : goal.invariant-loop-line
invariant-loop-line g l = goal.F-IsAlwaysCallable g l.map
    × ((rest : List ℕ) (last : _) → IsColoured (goal.F-step g) l.map (lines_of l.left) rest last →
    IsColoured (goal.F-step g) l.fn.colour_map (lines_of l.lines) (string_bytes l.text ++ rest) last)

abbrev pub decreases-loop-line : goal.decreases-loop-line
decreases-loop-line g l = length l.left
