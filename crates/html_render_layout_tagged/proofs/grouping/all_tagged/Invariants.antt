use Rattle.std.proofs.Common.{◌≡◌, map, take}
use Rattle.std.specs.Cmp.Lexicographic.{pointwise}
use Rattle.html_render_layout_lines.specs.Tags.{lines_with}
use Rattle.html_render_layout_tagged.specs.Stacks.{stack_at}
use Rattle.html_render_layout_tagged.specs.Grouping.{grouped, lines_of}
use Rattle.html_render_layout_tagged.proofs.grouping.all_tagged.Given as goal

abbrev pub invariant-loop-n : goal.invariant-loop-n
invariant-loop-n g l = lines_of l.made.items
    ≡ map (grouped (pointwise g.A.PartialEq.eq) l.names) (lines_with (stack_at l.stacks) (take l.n l.lines.lines))
