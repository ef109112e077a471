use Rattle.html_render_layout_buffer.proofs.Stored.{made, is-stored, opened, marked}
use Rattle.html_render_layout_buffer.proofs.buffer.LineBuffer.push_mark.Goals as goal

pub invariant_of-self : goal.invariant_of-self
invariant_of-self g c = is-stored _ _ _ (marked _ _ _ _ c.args.mark c.self.invariant c.in-Ok.ensures.ok)

pub returns-in-Ok-clause-ok : goal.returns-in-Ok-clause-ok
returns-in-Ok-clause-ok g c =
    let was = opened _ _ c.self.invariant c.self.view_is in
    rw c.in-Ok.is (made _ _ _ (marked _ _ _ _ c.args.mark was c.in-Ok.ensures.ok))
