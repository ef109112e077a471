use Rattle.html_render_layout_buffer.proofs.Stored.{made, is-stored, opened, closed, appended-to, ends-within, start-is, slot-start-is}
use Rattle.html_render_layout_buffer.proofs.buffer.LineBuffer.append_all.Goals as goal

pub put_all-put-requires-clause-text : goal.put_all-put-requires-clause-text
put_all-put-requires-clause-text g c = λ k d h. rw c.as_str-text.ensures.value (ends-within _ _ _ _ c.other.invariant c.as_slice.ensures.value k d h).0

pub put_all-put-requires-clause-slots : goal.put_all-put-requires-clause-slots
put_all-put-requires-clause-slots g c = λ k d h. (ends-within _ _ _ _ c.other.invariant c.as_slice.ensures.value k d h).1

pub invariant_of-self : goal.invariant_of-self
invariant_of-self g c =
    let was = closed _ _ c.self.invariant c.self.view_is c.requires in
    let other = opened _ _ c.other.invariant c.other.view_is in
    is-stored _ _ _ (appended-to _ _ _ _ _ _ _ _ _ _ _ _ was other c.in-Ok.ensures.text c.as_str-text.ensures.value c.in-Ok.ensures.slots
    c.in-Ok.ensures.ends c.as_slice.ensures.value (start-is _ _ _ _ c.as_str.ensures.value)
    (slot-start-is _ _ _ _ c.other.inside.slot_start c.len.ensures c.len-in-Ok.ensures))

pub returns-in-Ok-clause-ok : goal.returns-in-Ok-clause-ok
returns-in-Ok-clause-ok g c =
    let was = closed _ _ c.self.invariant c.self.view_is c.requires in
    let other = opened _ _ c.other.invariant c.other.view_is in
    rw c.in-Ok.is (made _ _ _ (appended-to _ _ _ _ _ _ _ _ _ _ _ _ was other c.in-Ok.ensures.text c.as_str-text.ensures.value c.in-Ok.ensures.slots
    c.in-Ok.ensures.ends c.as_slice.ensures.value (start-is _ _ _ _ c.as_str.ensures.value)
    (slot-start-is _ _ _ _ c.other.inside.slot_start c.len.ensures c.len-in-Ok.ensures)))
