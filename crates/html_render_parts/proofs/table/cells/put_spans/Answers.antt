use Rattle.std.proofs.Common.{arith}
use Rattle.html_render_parts.proofs.EdgeRanks.{IsNonDecreasing-rising}
use Rattle.html_render_parts.proofs.table.cells.put_spans.Goals as goal

pub overflow_sub-edges : goal.overflow_sub-edges
overflow_sub-edges c =
    IsNonDecreasing-rising c.args.edges.now c.requires.rising _ _ 0 (omega arith)
    (c.requires.on_edges c.loop-cell.cell-index (record { rowspan = 0; first = 0; columns = 0 }) c.loop-cell-test.true)
