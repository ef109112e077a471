use Rattle.std.proofs.Common.{refl}
use Rattle.html_render_layout_paragraphs.proofs.Nearby.{ascii_nearby, ascii_block}
use Rattle.html_render_layout_paragraphs.proofs.paragraph.feeding.ascii_in_block.Goals as goal

pub returns-then-others-eq0-clause-ascii : goal.returns-then-others-eq0-clause-ascii
returns-then-others-eq0-clause-ascii c = ascii_block c.args.least c.args.text.now c.requires c.if-others-eq0.true

pub returns-clause-within : goal.returns-clause-within
returns-clause-within c = (ascii_nearby c.args.least c.args.text.now c.requires c.if-others-eq0.false _ refl).0

pub returns-clause-ascii : goal.returns-clause-ascii
returns-clause-ascii c = (ascii_nearby c.args.least c.args.text.now c.requires c.if-others-eq0.false _ refl).1
