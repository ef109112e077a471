use Rattle.std.proofs.Common.{true, false, sym, ◌∙◌}
use Rattle.html_render_layout_blocks.proofs.Places.{next-reversed}
use Rattle.html_render_layout_blocks.proofs.block.rows.next_width.Goals as goal

pub returns-then-place : goal.returns-then-place
returns-then-place c =
    sym (c.loop-place.invariant ∙ next-reversed c.loop-place.rest.now c.in-Some.before.now c.in-Some.place.now true c.in-Some.ensures.cases.0 c.if-place.true)

pub loop-place-preserved : goal.loop-place-preserved
loop-place-preserved c =
    c.loop-place.invariant ∙ next-reversed c.loop-place.rest.now c.in-Some.before.now c.in-Some.place.now false c.in-Some.ensures.cases.0 c.if-place.false
