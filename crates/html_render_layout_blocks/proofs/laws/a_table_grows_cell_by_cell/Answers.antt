use Rattle.html_render_layout_blocks.specs.Machine.{machine}
use Rattle.html_render_layout_blocks.specs.laws.CellByCell.{row_begins, cell_comes, row_ends}
use Rattle.html_render_layout_blocks.proofs.laws.a_table_grows_cell_by_cell.Goals as goal

pub returns-clause-begins : goal.returns-clause-begins
returns-clause-begins g c = row_begins machine

pub returns-clause-adds : goal.returns-clause-adds
returns-clause-adds g c = cell_comes machine

pub returns-clause-ends : goal.returns-clause-ends
returns-clause-ends g c = row_ends machine
