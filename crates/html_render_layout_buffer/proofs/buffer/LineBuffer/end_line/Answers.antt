use Rattle.html_render_layout_buffer.proofs.Stored.{made, is-stored, opened, line-ended}
use Rattle.html_render_layout_buffer.proofs.buffer.LineBuffer.end_line.Goals as goal

pub invariant_of-self : goal.invariant_of-self
invariant_of-self g c =
    is-stored _ _ _ (line-ended _ _ _ _ _ _ _ c.self.invariant c.in-Ok.ensures.text c.in-Ok.ensures.end c.len-slots.ensures c.in-Ok.ensures.ends)

pub returns-in-Ok-clause-ok : goal.returns-in-Ok-clause-ok
returns-in-Ok-clause-ok g c =
    let was = opened _ _ c.self.invariant c.self.view_is in
    made _ _ _ (line-ended _ _ _ _ _ _ _ was c.in-Ok.ensures.text c.in-Ok.ensures.end c.len-slots.ensures c.in-Ok.ensures.ends)
