use Rattle.html_render_layout_buffer.proofs.Stored.{opened, has-end}
use Rattle.html_render_layout_buffer.proofs.buffer.LineBuffer.line_bytes.Goals as goal

pub place_of-place-requires : goal.place_of-place-requires
place_of-place-requires g c = has-end _ _ _ _ _ (opened _ _ c.self.invariant c.self.view_is) c.as_slice.ensures.value c.requires
