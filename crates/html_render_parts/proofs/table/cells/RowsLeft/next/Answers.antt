use Rattle.html_render_parts.proofs.RowsOfCells.{next-ordered}
use Rattle.html_render_parts.proofs.table.cells.RowsLeft.next.Goals as goal

pub put_numbered-requires-clause-ordered : goal.put_numbered-requires-clause-ordered
put_numbered-requires-clause-ordered c =
    let is = rw c.if-placed.true at c.in_ok-placed.ensures.ok in
    rw c.places.ensures (next-ordered c.self.inside.cells c.next_simple.new.row c.self.inside.placer.hanging _ _ c.next_simple.ensures.ahead is)
