use Rattle.std.proofs.Common.{◌≡◌, ◌++◌, drop, length}
use Rattle.html_render_parts.specs.Placement.{bottom_rows, lists, placed_rows, rows_from}
use Rattle.html_render_parts.specs.Positions.{positions_fit}
use Rattle.html_render_parts.proofs.table.placement.place_rows.Given as goal

abbrev pub invariant-loop-row : goal.invariant-loop-row
invariant-loop-row l =
    let ahead = rows_from l.row l.placer.hanging (lists (drop l.row l.rows)) in record {
      all_rows : lists l.placed.items ++ ahead ≡ placed_rows (lists l.rows);
      fits : positions_fit (placed_rows (lists l.rows)) ≡ positions_fit ahead;
    }

abbrev pub invariant-bottom : goal.invariant-bottom
invariant-bottom l =
    let ahead = bottom_rows l.placer.hanging in record {
      all_rows : lists l.placed.items ++ ahead ≡ placed_rows (lists l.fn.rows);
      fits : positions_fit (placed_rows (lists l.fn.rows)) ≡ positions_fit ahead;
    }

abbrev pub decreases-bottom : goal.decreases-bottom
decreases-bottom l = length l.placer.hanging
