use Rattle.html_render_layout_buffer.proofs.Stored.{made, is-stored, opened}
use Rattle.html_render_layout_buffer.proofs.WordParts.{worded}
use Rattle.html_render_layout_buffer.proofs.buffer.LineBuffer.append_word.Goals as goal

pub invariant_of-self : goal.invariant_of-self
invariant_of-self g c =
    let was = opened _ _ c.self.invariant c.self.view_is in
    let count = c.counted_sum-columns.ensures _ _ was.columns c.known.ensures in
    let word = worded _ _ _ _ _ _ c.args.continues c.args.word.now.elements c.args.width was c.in-Ok.ensures.utf8 c.in-Ok.ensures.text
    c.in-Ok.ensures.slots c.requires count in
    is-stored _ _ _ word

pub returns-in-Ok-clause-ok : goal.returns-in-Ok-clause-ok
returns-in-Ok-clause-ok g c =
    let was = opened _ _ c.self.invariant c.self.view_is in
    let count = c.counted_sum-columns.ensures _ _ was.columns c.known.ensures in
    let word = worded _ _ _ _ _ _ c.args.continues c.args.word.now.elements c.args.width was c.in-Ok.ensures.utf8 c.in-Ok.ensures.text
    c.in-Ok.ensures.slots c.requires count in
    rw c.in-Ok.is (made _ _ _ word)
