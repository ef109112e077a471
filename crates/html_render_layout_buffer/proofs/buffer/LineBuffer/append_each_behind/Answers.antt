use Rattle.std.proofs.Common.{ap, length}
use Rattle.html_render_layout_buffer.proofs.Stored.{made, is-stored, opened, closed}
use Rattle.html_render_layout_buffer.proofs.BehindLines.{behind-stored}
use Rattle.html_render_layout_buffer.proofs.buffer.LineBuffer.append_each_behind.Goals as goal

pub invariant_of-self : goal.invariant_of-self
invariant_of-self g c =
    let was = closed _ _ c.self.invariant c.self.view_is c.requires.open in
    let other = opened _ _ c.other.invariant c.other.view_is in
    is-stored _ _ _ (behind-stored _ _ _ _ _ c.args.prefix.now.tag _ c.args.from _ _ _ _ _ was other c.in-Ok.ensures.utf8 c.in-Ok.ensures.text
    c.in-Ok.ensures.slots c.in-Ok.ensures.ends (ap length c.as_str.ensures.value) c.len-self-inside.ensures)

pub returns-in-Ok-clause-ok : goal.returns-in-Ok-clause-ok
returns-in-Ok-clause-ok g c =
    let was = closed _ _ c.self.invariant c.self.view_is c.requires.open in
    let other = opened _ _ c.other.invariant c.other.view_is in
    rw c.in-Ok.is (made _ _ _ (behind-stored _ _ _ _ _ c.args.prefix.now.tag _ c.args.from _ _ _ _ _ was other c.in-Ok.ensures.utf8 c.in-Ok.ensures.text
    c.in-Ok.ensures.slots c.in-Ok.ensures.ends (ap length c.as_str.ensures.value) c.len-self-inside.ensures))
