use Rattle.html_render_parts.specs.declared.table.CellKind.TheVariants.{Cell}
use Rattle.html_render_parts.proofs.EdgeRanks.{rank-mono}
use Rattle.html_render_parts.proofs.table.numbering.put_numbered.Goals as goal

pub overflow_sub-behind : goal.overflow_sub-behind
overflow_sub-behind c =
    rw (c.rank_near-first.ensures, c.rank_near-behind.ensures)
    (rank-mono c.args.edges.now _ _
    (c.requires.ordered c.loop-place.place-index (record { kind = Cell; start = 0; end = 0 }) c.loop-place-test.true))
