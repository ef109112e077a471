use Rattle.std.proofs.Common.{◌-◌, length, ap, arith}
use Rattle.html_render_layout_buffer.proofs.PartLines.{mark-left, tagged-left}
use Rattle.html_render_layout_buffer.proofs.buffer.parts.LineParts.next.Goals as goal

pub invariant_of-self : goal.invariant_of-self
invariant_of-self g c =
    (mark-left _ _ _ _ _ _ _ c.self.invariant c.self.view_is (omega arith) c.span_at-span.ensures.after c.span_at-span.ensures.tags c.in-Mark.is).0

pub take_characters-requires-clause-tagged : goal.take_characters-requires-clause-tagged
take_characters-requires-clause-tagged g c =
    tagged-left _ _ _ _ _ _ (c.min.result - c.self.inside.from) _ c.self.invariant c.self.view_is (ap (λ k. k - c.self.inside.from) c.min.ensures)
    (omega arith) c.span_at-span.ensures.after c.span_at-span.ensures.tags c.in-Byte.is

pub returns-in-Mark-clause-some : goal.returns-in-Mark-clause-some
returns-in-Mark-clause-some g c =
    (mark-left _ _ _ _ _ _ _ c.self.invariant c.self.view_is (omega arith) c.span_at-span.ensures.after c.span_at-span.ensures.tags c.in-Mark.is).1

pub returns-in-Mark-clause-shorter : goal.returns-in-Mark-clause-shorter
returns-in-Mark-clause-shorter g c =
    let parts = mark-left _ _ _ _ _ _ _ c.self.invariant c.self.view_is (omega arith) c.span_at-span.ensures.after c.span_at-span.ensures.tags c.in-Mark.is in
    omega (arith, ap length parts.1)
