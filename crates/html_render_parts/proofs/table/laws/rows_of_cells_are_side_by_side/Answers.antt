use Rattle.html_render_parts.proofs.GridOfCells.{cells-have_columns, cells-in_table, cells-side_by_side}
use Rattle.html_render_parts.proofs.table.laws.rows_of_cells_are_side_by_side.Goals as goal

pub returns : goal.returns
returns c = record { side_by_side = cells-side_by_side; columns = cells-have_columns; in_table = cells-in_table }
