use Rattle.std.proofs.Common.{not, ap, ◌∙◌}
use Rattle.html_render_layout_buffer.proofs.OpenBlocks.{opened, empty-is}
use Rattle.html_render_layout_buffer.proofs.nested.NestedLines.is_empty.Goals as goal

pub returns : goal.returns
returns g c = ap not c.has_lines.ensures ∙ empty-is _ _ (opened _ _ c.self.invariant c.self.view_is)
