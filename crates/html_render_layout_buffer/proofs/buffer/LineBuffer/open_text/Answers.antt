use Rattle.std.proofs.Common.{◌∙◌}
use Rattle.html_render_layout_buffer.proofs.Stored.{opened, open-at}
use Rattle.html_render_layout_buffer.proofs.buffer.LineBuffer.open_text.Goals as goal

pub text_from-requires-clause-within : goal.text_from-requires-clause-within
text_from-requires-clause-within g c = (open-at _ _ _ _ (opened _ _ c.self.invariant c.self.view_is) c.as_str.ensures.value).within

pub text_from-requires-clause-begins : goal.text_from-requires-clause-begins
text_from-requires-clause-begins g c = (open-at _ _ _ _ (opened _ _ c.self.invariant c.self.view_is) c.as_str.ensures.value).begins

pub returns : goal.returns
returns g c = c.text_from.ensures ∙ (open-at _ _ _ _ (opened _ _ c.self.invariant c.self.view_is) c.as_str.ensures.value).rest
