use Rattle.std.proofs.Common.{◌≡◌, ◌++◌, reverse}
use Rattle.html_render_layout_tagged.specs.Stacks.{stack_at}
use Rattle.html_render_layout_tagged.proofs.grouping.annotations.Given as goal

-- the remaining stack, and the annotations taken from its top
abbrev pub invariant-loop-top : goal.invariant-loop-top
invariant-loop-top g l = stack_at l.stacks l.fn.tag ≡ stack_at l.stacks l.tag ++ reverse l.annotations.items

abbrev pub decreases-loop-top : goal.decreases-loop-top
decreases-loop-top g l = l.tag
