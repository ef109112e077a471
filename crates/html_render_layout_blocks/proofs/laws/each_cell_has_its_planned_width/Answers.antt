use Rattle.html_render_layout_blocks.specs.laws.WholeTable.{cell_widths}
use Rattle.html_render_layout_blocks.proofs.laws.each_cell_has_its_planned_width.Goals as goal

pub returns : goal.returns
returns g c b tag borders stacked grid needs rows cells = cell_widths b tag borders stacked grid needs rows cells
