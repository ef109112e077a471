use Rattle.std.proofs.Common.{◌++◌, ◌∙◌, ap}
use Rattle.std.specs.String.{string_bytes}
use Rattle.html_render_layout_buffer.proofs.Stored.{made, is-stored, opened, added}
use Rattle.html_render_layout_buffer.proofs.buffer.LineBuffer.append_line.Goals as goal

pub invariant_of-self : goal.invariant_of-self
invariant_of-self g c =
    let was = opened _ _ c.self.invariant c.self.view_is in
    let count = c.counted_sum-columns.ensures _ _ was.columns c.stored_line-line.ensures.columns in
    let text = c.in-Ok.ensures.text ∙ ap (λ y. string_bytes c.self.inside.text ++ y) c.stored_line-line.ensures.text in
    let slots = c.in-Ok.ensures.slots ∙ ap (λ y. c.self.inside.slots ++ y) c.stored_line-line.ensures.slots in
    is-stored _ _ _ (added _ _ _ _ _ _ _ was c.stored_line-line.ensures.utf8 text slots count)

pub returns-in-Ok-clause-ok : goal.returns-in-Ok-clause-ok
returns-in-Ok-clause-ok g c =
    let was = opened _ _ c.self.invariant c.self.view_is in
    let count = c.counted_sum-columns.ensures _ _ was.columns c.stored_line-line.ensures.columns in
    let text = c.in-Ok.ensures.text ∙ ap (λ y. string_bytes c.self.inside.text ++ y) c.stored_line-line.ensures.text in
    let slots = c.in-Ok.ensures.slots ∙ ap (λ y. c.self.inside.slots ++ y) c.stored_line-line.ensures.slots in
    rw c.in-Ok.is (made _ _ _ (added _ _ _ _ _ _ _ was c.stored_line-line.ensures.utf8 text slots count))
