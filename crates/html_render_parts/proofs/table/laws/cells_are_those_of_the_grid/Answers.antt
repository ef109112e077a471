use Rattle.html_render_parts.proofs.GridOfCells.{cells-in_rows, grid-of_table, no-cells_below, same-grid, spans-of_cells}
use Rattle.html_render_parts.proofs.table.laws.cells_are_those_of_the_grid.Goals as goal

pub returns : goal.returns
returns c = record { grid = same-grid; tables = grid-of_table; spans = spans-of_cells; cells = cells-in_rows; below = no-cells_below }
