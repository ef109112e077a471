use Rattle.html_render_layout_pictures.proofs.PlainLines.{no-text, no-columns}
use Rattle.html_render_layout_pictures.proofs.plain.LineText.clear.Goals as goal

pub invariant_of-self : goal.invariant_of-self
invariant_of-self c = no-columns c.clear.new.self c.clear.ensures.bytes

pub returns : goal.returns
returns c = no-text c.clear.new.self c.clear.ensures.bytes
