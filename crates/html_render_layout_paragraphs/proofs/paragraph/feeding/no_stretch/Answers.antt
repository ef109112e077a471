use Rattle.html_render_layout_paragraphs.proofs.Stretches.{no-stretch}
use Rattle.html_render_layout_paragraphs.proofs.paragraph.feeding.no_stretch.Goals as goal

pub returns : goal.returns
returns c = no-stretch c.args.mode c.args.text.now c.utf8.text
