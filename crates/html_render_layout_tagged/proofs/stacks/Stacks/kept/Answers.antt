use Rattle.std.proofs.Common.{[], ◌∷◌, length, arith, ap}
use Rattle.html_render_layout_tagged.specs.laws.Stacks.{length-stacks_after, stack_at-kept}
use Rattle.html_render_layout_tagged.proofs.stacks.Stacks.kept.Goals as goal

pub returns-then-tag-len-clause-within : goal.returns-then-tag-len-clause-within
returns-then-tag-len-clause-within g c = omega
    (arith, length-stacks_after ([] ∷ []) c.self.inside.pushed.items, ap length c.self.view_is, c.len.ensures, c.if-tag-len.true)

pub returns-else-tag-len-clause-same : goal.returns-else-tag-len-clause-same
returns-else-tag-len-clause-same g c =
    rw (← c.self.view_is) (stack_at-kept c.self.inside.pushed.items c.args.tag (omega (arith, c.len.ensures, c.if-tag-len.false)))

pub returns-else-tag-len-clause-within : goal.returns-else-tag-len-clause-within
returns-else-tag-len-clause-within g c = omega (arith, length-stacks_after ([] ∷ []) c.self.inside.pushed.items, ap length c.self.view_is)
