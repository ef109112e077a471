use Rattle.html_render_layout_estimates.proofs.Blocks.{plain_block}
use Rattle.html_render_layout_estimates.proofs.text.is_plain_block.Goals as goal

pub returns : goal.returns
returns c none = plain_block c.args.text.now c.args.at c.requires.0 c.requires.1 none
