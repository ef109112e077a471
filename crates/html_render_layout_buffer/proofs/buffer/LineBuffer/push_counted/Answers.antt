use Rattle.html_render_layout_buffer.proofs.Stored.{made, is-stored, opened, pushed}
use Rattle.html_render_layout_buffer.proofs.buffer.LineBuffer.push_counted.Goals as goal

pub invariant_of-self : goal.invariant_of-self
invariant_of-self g c =
    let count = c.counted_sum-columns.ensures _ _ c.self.invariant.columns c.requires in
    is-stored _ _ _ (pushed _ _ _ _ _ _ c.args.text.now c.args.tag c.utf8.text c.self.invariant c.in-Ok.ensures.text c.in-Ok.ensures.slots count)

pub returns-in-Ok-clause-ok : goal.returns-in-Ok-clause-ok
returns-in-Ok-clause-ok g c =
    let was = opened _ _ c.self.invariant c.self.view_is in
    let count = c.counted_sum-columns.ensures _ _ was.columns c.requires in
    rw c.in-Ok.is (made _ _ _ (pushed _ _ _ _ _ _ c.args.text.now c.args.tag c.utf8.text was c.in-Ok.ensures.text c.in-Ok.ensures.slots count))
