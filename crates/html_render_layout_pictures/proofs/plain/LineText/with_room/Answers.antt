use Rattle.html_render_layout_pictures.proofs.PlainLines.{no-text, no-columns}
use Rattle.html_render_layout_pictures.proofs.plain.LineText.with_room.Goals as goal

pub invariant_of-result : goal.invariant_of-result
invariant_of-result c = no-columns c.in_ok-text.text c.in_ok-text.ensures.bytes

pub returns : goal.returns
returns c = no-text c.in_ok-text.text c.in_ok-text.ensures.bytes
