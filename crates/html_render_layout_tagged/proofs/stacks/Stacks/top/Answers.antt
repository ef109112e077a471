use Rattle.std.proofs.Common.{◌-◌, arith}
use Rattle.html_render_layout_tagged.specs.laws.Stacks.{stack_at-zero, read-at}
use Rattle.html_render_layout_tagged.proofs.stacks.Stacks.top.Goals as goal

pub returns-then-tag-eq0 : goal.returns-then-tag-eq0
returns-then-tag-eq0 g c = rw (← c.self.view_is, c.if-tag-eq0.true) (stack_at-zero c.self.inside.pushed.items)

pub returns : goal.returns
returns g c =
    rw (← c.self.view_is) (read-at c.self.inside.pushed.items c.args.tag (c.args.tag - 1) c.get.result c.self.invariant
    (omega (arith, c.if-tag-eq0.false)) (rw c.as_slice-pushed.ensures.value at c.get.ensures.lookup))
