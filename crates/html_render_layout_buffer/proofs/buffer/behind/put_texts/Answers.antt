use Rattle.std.proofs.Common.{◌++◌, ◌∙◌, ap, arith}
use Rattle.html_render_layout_buffer.proofs.BehindLines.{text-more}
use Rattle.html_render_layout_buffer.proofs.buffer.behind.put_texts.Goals as goal

pub loop-n-preserved : goal.loop-n-preserved
loop-n-preserved g c =
    let ended = c.stored_line.result.ended.now in
    text-more c.args.prefix.now.tag _ _ _ _ ended c.args.lines.now.lines c.args.from c.loop-n.n c.requires.utf8 (omega arith) (omega arith) c.loop-n.invariant c.stored_line.ensures.ended
    (c.in_ok-push_str-2.ensures.bytes ∙ ap (λ y. y ++ ended) c.in_ok-push_str.ensures.bytes)
