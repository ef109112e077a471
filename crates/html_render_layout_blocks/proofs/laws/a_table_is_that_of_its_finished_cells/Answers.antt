use Rattle.html_render_layout_blocks.specs.laws.WholeTable.{whole_table}
use Rattle.html_render_layout_blocks.proofs.laws.a_table_is_that_of_its_finished_cells.Goals as goal

pub returns : goal.returns
returns g c b tag borders stacked grid needs rows = whole_table b tag borders stacked grid needs rows
