use Rattle.html_render_parts.proofs.RowsOfCells.{all-ahead}
use Rattle.html_render_parts.proofs.table.cells.TableCells.into_placer.Goals as goal

pub invariant_of-result : goal.invariant_of-result
invariant_of-result c = rw (c.new.ensures, ← c.self.view_is) (all-ahead _ c.self.invariant)
