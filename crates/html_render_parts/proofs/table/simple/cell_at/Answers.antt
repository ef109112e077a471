use Rattle.std.proofs.Common.{arith}
use Rattle.html_render_parts.proofs.EdgeRanks.{rank-mono}
use Rattle.html_render_parts.proofs.table.simple.cell_at.Goals as goal

pub overflow_sub-result : goal.overflow_sub-result
overflow_sub-result c = rw (c.rank_near-first.ensures, c.rank_near-end.ensures) (rank-mono c.args.edges.now _ _ (omega arith))
