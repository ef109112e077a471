use Rattle.std.proofs.Common.{◌∙◌, length, ap}
use Rattle.html_render_layout_buffer.proofs.Stored.{opened, count-is}
use Rattle.html_render_layout_buffer.proofs.buffer.LineBuffer.line_count.Goals as goal

pub returns : goal.returns
returns g c = ap length c.as_slice.ensures.value ∙ count-is _ _ _ (opened _ _ c.self.invariant c.self.view_is)
