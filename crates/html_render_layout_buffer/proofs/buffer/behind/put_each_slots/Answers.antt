use Rattle.std.proofs.Common.{◌++◌, ◌∙◌, ap, take, drop, arith}
use Rattle.html_render_layout_buffer.proofs.BehindLines.{slots-more}
use Rattle.html_render_layout_buffer.proofs.buffer.behind.put_each_slots.Goals as goal

pub loop-n-preserved : goal.loop-n-preserved
loop-n-preserved g c =
    let line = c.stored_line-line.result in
    let own = drop line.from (take line.to line.slots.now) in
    slots-more c.args.prefix.now.tag _ _ _ _ own c.args.lines.now.lines c.args.from c.loop-n.n c.requires.utf8 (omega arith) (omega arith) c.loop-n.invariant c.stored_line-line.ensures.slots
    (c.in_ok-append_range.ensures ∙ ap (λ y. y ++ own) c.in_ok-push.ensures.ok)
