use Rattle.std.proofs.Common.{◌+◌, ◌-◌, ◌<◌, length, sum, subst, sym, arith}
use Rattle.html_render_layout_blocks.proofs.Places.{places-step, behind_fits}
use Rattle.html_render_layout_blocks.proofs.block.rows.put_places.Goals as goal

pub loop-cell-preserved : goal.loop-cell-preserved
loop-cell-preserved c = record {
  all = places-step _ c.loop-cell.rest.now c.columns_at.result.0.now c.columns_at.result.1.now c.args.cells.now c.loop-cell.cell-index _
      c.loop-cell.row.items c.push.new.self.items c.is_cell.result c.cell_width.result c.loop-cell.invariant.all (omega arith)
      c.columns_at.ensures.own c.columns_at.ensures.behind c.is_cell.ensures c.cell_width.ensures c.in_ok-push.ensures.items;
  fit = subst (λ ws. sum ws + (length ws - 1) < 18446744073709551616) (sym c.columns_at.ensures.behind)
      (behind_fits _ 18446744073709551616 c.loop-cell.rest.now c.loop-cell.invariant.fit);
}
