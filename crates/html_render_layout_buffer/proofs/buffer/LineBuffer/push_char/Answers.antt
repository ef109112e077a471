use Rattle.html_render_layout_buffer.proofs.Stored.{made, is-stored, opened, character-pushed, character-utf8}
use Rattle.html_render_layout_buffer.proofs.buffer.LineBuffer.push_char.Goals as goal

pub invariant_of-self : goal.invariant_of-self
invariant_of-self g c =
    let was = opened _ _ c.self.invariant c.self.view_is in
    let count = c.counted_sum-columns.ensures _ _ was.columns c.known.ensures in
    is-stored _ _ _ (character-pushed _ _ _ _ _ _ c.args.c c.args.tag c.args.width (character-utf8 c.args.c c.ranges.c.0) was c.in-Ok.ensures.text c.in-Ok.ensures.slots c.requires count)

pub returns-in-Ok-clause-ok : goal.returns-in-Ok-clause-ok
returns-in-Ok-clause-ok g c =
    let was = opened _ _ c.self.invariant c.self.view_is in
    let count = c.counted_sum-columns.ensures _ _ was.columns c.known.ensures in
    rw c.in-Ok.is (made _ _ _ (character-pushed _ _ _ _ _ _ c.args.c c.args.tag c.args.width (character-utf8 c.args.c c.ranges.c.0) was c.in-Ok.ensures.text c.in-Ok.ensures.slots c.requires count))
