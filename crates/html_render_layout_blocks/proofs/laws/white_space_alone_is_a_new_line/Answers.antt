use Rattle.html_render_layout_blocks.specs.laws.BlankItems.{blank_item}
use Rattle.html_render_layout_blocks.proofs.laws.white_space_alone_is_a_new_line.Goals as goal

pub returns : goal.returns
returns g c b prefix inner style cs tag first later mode all = blank_item b prefix inner style cs tag first later mode all
