use Rattle.html_render_parts.proofs.CellsOnColumns.{cells-within}
use Rattle.html_render_parts.proofs.table.cells.TableCells.rows.Goals as goal

pub returns-clause-on_columns : goal.returns-clause-on_columns
returns-clause-on_columns c = rw (← c.self.view_is) (cells-within _ c.self.invariant)
