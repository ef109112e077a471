use Rattle.std.proofs.Common.{◌≡◌, [], length}
use Rattle.std.specs.Cmp.Lexicographic.{pointwise}
use Rattle.html_render_layout_lines.specs.Tags.{line_with}
use Rattle.html_render_layout_tagged.specs.Stacks.{stack_at}
use Rattle.html_render_layout_tagged.specs.Grouping.{grouped}
use Rattle.html_render_layout_tagged.specs.Progress.{pieces_with, Takes}
use Rattle.html_render_layout_tagged.proofs.grouping.tagged_line.Given as goal

-- appending what is left completes the line
abbrev pub invariant-loop-part : goal.invariant-loop-part
invariant-loop-part g l = (now : _) → Takes g.A.PartialEq.eq l.stacks l.names l.progress l.left now →
    pieces_with g.A.PartialEq.eq l.stacks now [] ≡ grouped (pointwise g.A.PartialEq.eq) l.names (line_with (stack_at l.stacks) l.fn.line)

abbrev pub decreases-loop-part : goal.decreases-loop-part
decreases-loop-part g l = length l.left
