use Rattle.html_render_tree_records.proofs.TextAt.{text_at-from}
use Rattle.html_render_tree_records.proofs.rules.text_at.Goals as goal

pub returns : goal.returns
returns c = text_at-from c.args.text.now c.args.start c.args.length c.piece_of.result c.piece_of.ensures.some c.piece_of.ensures.none
