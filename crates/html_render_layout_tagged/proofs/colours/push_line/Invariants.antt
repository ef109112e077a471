use Rattle.std.proofs.Common.{◌≡◌, ℕ, ◌++◌, List, length, string_bytes}
use Rattle.html_render_layout_tagged.specs.Grouping.{pieces_of}
use Rattle.html_render_layout_tagged.specs.Colouring.{IsColouredLine}
use Rattle.html_render_layout_tagged.proofs.colours.push_line.Given as goal

-- the calls for the other elements, and a text of them, complete those for the line, and its text
abbrev pub invariant-loop-element : goal.invariant-loop-element
invariant-loop-element g l = goal.F-IsAlwaysCallable g l.colour_map
    × ((rest : List ℕ) (last : _) → IsColouredLine (goal.F-step g) l.colour_map (pieces_of l.left) rest last →
    (written : List ℕ) × IsColouredLine (goal.F-step g) l.fn.colour_map (pieces_of l.fn.line) written last
    × (string_bytes l.text ++ rest ≡ string_bytes l.fn.text ++ written))

abbrev pub decreases-loop-element : goal.decreases-loop-element
decreases-loop-element g l = length l.left
