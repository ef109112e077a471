use Rattle.html_render_layout_paragraphs.proofs.SpacedWords.{no-front}
use Rattle.html_render_layout_paragraphs.proofs.paragraph.Paragraph.fitting_front.Goals as goal

pub returns-in_default-clause-front : goal.returns-in_default-clause-front
returns-in_default-clause-front g c = no-front c.args.text.now c.utf8.text

pub returns-in_default-2-clause-front : goal.returns-in_default-2-clause-front
returns-in_default-2-clause-front g c = no-front c.args.text.now c.utf8.text
