use Rattle.html_render_layout_pictures.proofs.Blanks.{start-place, start-of}
use Rattle.html_render_layout_pictures.proofs.blank.Blank.new.Goals as goal

pub invariant_of-result : goal.invariant_of-result
invariant_of-result c = start-place c.args.text.now c.utf8.text

pub returns : goal.returns
returns c = start-of c.args.text.now
