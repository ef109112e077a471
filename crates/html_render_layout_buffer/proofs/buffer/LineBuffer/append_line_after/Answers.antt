use Rattle.std.proofs.Common.{◌∙◌, ap, length}
use Rattle.html_render_layout_buffer.proofs.Stored.{made, is-stored, opened, line-prefixed, ends-named}
use Rattle.html_render_layout_buffer.proofs.buffer.LineBuffer.append_line_after.Goals as goal

pub invariant_of-self : goal.invariant_of-self
invariant_of-self g c =
    let was = opened _ _ c.self.invariant c.self.view_is in
    let count = c.counted_sum-columns.ensures _ _ (c.counted_sum-prefixed.ensures _ _ was.columns c.args.prefix.now.columns_of_text) c.stored_line-line.ensures.columns in
    let end = ap length c.as_str.ensures.value in
    let ends = c.in-Ok.ensures.ends ∙ ends-named _ _ _ _ _ _ end c.len-self-inside.ensures in
    let line = line-prefixed _ _ _ _ _ _ _ _ _ _ c.args.prefix.now.text.now c.stored_line-line.result.ended.now c.args.prefix.now.tag _ was c.put_after-put.ensures.utf8
    c.stored_line-line.ensures.utf8 c.stored_line-line.ensures.ended c.stored_line-line.ensures.slots c.in-Ok.ensures.text c.in-Ok.ensures.slots count
    end c.len-self-inside.ensures ends in
    is-stored _ _ _ line

pub returns-in-Ok-clause-ok : goal.returns-in-Ok-clause-ok
returns-in-Ok-clause-ok g c =
    let was = opened _ _ c.self.invariant c.self.view_is in
    let count = c.counted_sum-columns.ensures _ _ (c.counted_sum-prefixed.ensures _ _ was.columns c.args.prefix.now.columns_of_text) c.stored_line-line.ensures.columns in
    let end = ap length c.as_str.ensures.value in
    let ends = c.in-Ok.ensures.ends ∙ ends-named _ _ _ _ _ _ end c.len-self-inside.ensures in
    let line = line-prefixed _ _ _ _ _ _ _ _ _ _ c.args.prefix.now.text.now c.stored_line-line.result.ended.now c.args.prefix.now.tag _ was c.put_after-put.ensures.utf8
    c.stored_line-line.ensures.utf8 c.stored_line-line.ensures.ended c.stored_line-line.ensures.slots c.in-Ok.ensures.text c.in-Ok.ensures.slots count
    end c.len-self-inside.ensures ends in
    rw c.in-Ok.is (made _ _ _ line)
