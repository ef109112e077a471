use Rattle.html_render_layout_blocks.specs.laws.WholeTable.{cell_used}
use Rattle.html_render_layout_blocks.proofs.laws.a_cell_adds_its_finished_block.Goals as goal

pub returns : goal.returns
returns g c b cell = cell_used b cell
