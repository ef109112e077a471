use Rattle.html_render_parts.proofs.CellsOnColumns.{edges-rise}
use Rattle.html_render_parts.proofs.table.cells.TableCells.edges.Goals as goal

pub returns-clause-rising : goal.returns-clause-rising
returns-clause-rising c = rw (c.as_slice.ensures.value, c.deref.ensures) (edges-rise _ c.self.invariant)
