use Rattle.std.proofs.Common.{◌∙◌}
use Rattle.html_render_layout_buffer.proofs.OpenBlocks.{no-chars}
use Rattle.html_render_layout_buffer.proofs.nested.prefixes.is_empty.Goals as goal

pub returns : goal.returns
returns c = c.is_empty.ensures ∙ no-chars c.args.text.now c.utf8.text
