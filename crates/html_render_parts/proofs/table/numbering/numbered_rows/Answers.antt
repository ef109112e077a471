use Rattle.std.proofs.Common.{◌≤◌, All}
use Rattle.html_render_parts.proofs.Vectors.{at-vector}
use Rattle.html_render_parts.proofs.table.numbering.numbered_rows.Goals as goal

pub put_numbered-requires-clause-ordered : goal.put_numbered-requires-clause-ordered
put_numbered-requires-clause-ordered c =
    rw c.deref.ensures.value (at-vector
    (All (λ p. p.start ≤ p.end)) c.args.placed.now c.loop-places.places-index c.places-item.result c.requires.ordered
    c.loop-places-test.true c.places-item.is)
