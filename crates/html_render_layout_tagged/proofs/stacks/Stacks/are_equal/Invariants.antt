use Rattle.std.proofs.Common.{◌≡◌}
use Rattle.std.specs.Cmp.Lexicographic.{pointwise}
use Rattle.html_render_layout_tagged.specs.Stacks.{stack_at}
use Rattle.html_render_layout_tagged.proofs.stacks.Stacks.are_equal.Given as goal

-- the result is that for the stacks that aren't compared yet
abbrev pub invariant-loop-left : goal.invariant-loop-left
invariant-loop-left g l =
    pointwise g.A.PartialEq.eq (stack_at l.self l.fn.left) (stack_at l.self l.fn.right)
    ≡ pointwise g.A.PartialEq.eq (stack_at l.self l.left) (stack_at l.self l.right)

abbrev pub decreases-loop-left : goal.decreases-loop-left
decreases-loop-left g l = l.left
