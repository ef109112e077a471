use Rattle.std.proofs.Common.{◌&&◌, sym, ap, ◌∙◌}
use Rattle.std.specs.Cmp.Lexicographic.{pointwise, lists_equiv}
use Rattle.html_render_layout_tagged.specs.Stacks.{stack_at}
use Rattle.html_render_layout_tagged.specs.laws.Stacks.{pointwise-tops}
use Rattle.html_render_layout_tagged.proofs.stacks.Stacks.are_equal.Goals as goal

pub returns-then-not-is_like : goal.returns-then-not-is_like
returns-then-not-is_like g c =
    let tops = pointwise-tops g.A.PartialEq.eq c.args.self.now c.loop-left.left c.loop-left.right c.in-Some.above.now c.in-Some-top.other.now
    c.in-Some.ensures c.in-Some-top.ensures in
    let below = pointwise g.A.PartialEq.eq (stack_at c.args.self.now c.in-Some.above.now.below)
    (stack_at c.args.self.now c.in-Some-top.other.now.below) in
    sym (c.loop-left.invariant ∙ tops ∙ ap (λ b. b && below) (sym c.is_like.ensures ∙ c.if-not-is_like.true))

pub loop-left-preserved : goal.loop-left-preserved
loop-left-preserved g c =
    let tops = pointwise-tops g.A.PartialEq.eq c.args.self.now c.loop-left.left c.loop-left.right c.in-Some.above.now c.in-Some-top.other.now
    c.in-Some.ensures c.in-Some-top.ensures in
    let below = pointwise g.A.PartialEq.eq (stack_at c.args.self.now c.in-Some.above.now.below)
    (stack_at c.args.self.now c.in-Some-top.other.now.below) in
    c.loop-left.invariant ∙ tops ∙ ap (λ b. b && below) (sym c.is_like.ensures ∙ c.if-not-is_like.false)

pub returns : goal.returns
returns g c =
    let itself = (lists_equiv g.met.A.Eq.laws).refl (stack_at c.args.self.now c.loop-left.left) in
    let same = ap (λ tag. pointwise g.A.PartialEq.eq (stack_at c.args.self.now c.loop-left.left) (stack_at c.args.self.now tag)) in
    sym (c.loop-left.invariant ∙ same (sym c.loop-left-test.false) ∙ itself)
