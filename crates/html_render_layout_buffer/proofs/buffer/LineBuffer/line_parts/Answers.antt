use Rattle.std.proofs.Common.{sym, subst}
use Rattle.std.specs.Str.{IsUtf8}
use Rattle.html_render_layout_buffer.proofs.PartLines.{left-is, left-made}
use Rattle.html_render_layout_buffer.proofs.buffer.LineBuffer.line_parts.Goals as goal

pub invariant_of-result : goal.invariant_of-result
invariant_of-result g c =
    left-made _ _ _ _ _ c.stored_line-line.ensures.text c.stored_line-line.ensures.slots
    (subst IsUtf8 (sym c.stored_line-line.ensures.text) c.stored_line-line.ensures.utf8)
    c.stored_line-line.ensures.range c.stored_line-line.ensures.within

pub returns : goal.returns
returns g c =
    left-is _ c.stored_line-line.result.slots.now c.stored_line-line.result.from c.stored_line-line.result.to _ c.stored_line-line.ensures.text
    c.stored_line-line.ensures.slots (subst IsUtf8 (sym c.stored_line-line.ensures.text) c.stored_line-line.ensures.utf8)
