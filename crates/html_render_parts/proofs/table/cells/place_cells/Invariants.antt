use Rattle.std.proofs.Common.{◌≡◌, ◌++◌, [], List, drop, length}
use Rattle.html_render_parts.specs.declared.table.placement.PositionedCell.{PositionedCell}
use Rattle.html_render_parts.specs.Placement.{bottom_rows, lists, placed_rows, rows_from}
use Rattle.html_render_parts.specs.OwnCells.{own_rows_from}
use Rattle.html_render_parts.specs.SimpleRows.{own_with_simple}
use Rattle.html_render_parts.proofs.GatheringEnds.{IsGathered}
use Rattle.html_render_parts.proofs.table.cells.place_cells.Given as goal

abbrev pub invariant-loop-row : goal.invariant-loop-row
invariant-loop-row l =
    let hung = l.placer.hanging in
    let more = lists (drop l.row l.rows) in record {
      gathered : IsGathered (placed_rows (lists l.rows)) (rows_from l.row hung more) hung l.positions;
      own : (rest : List (List PositionedCell)) → own_with_simple l.row more rest ≡ own_rows_from l.row hung more →
          own_with_simple 0 (lists l.rows) (l.own ++ rest) ≡ own_rows_from 0 [] (lists l.rows);
      count : length l.own ≡ l.row;
    }

abbrev pub invariant-bottom : goal.invariant-bottom
invariant-bottom l = IsGathered (placed_rows (lists l.fn.rows)) (bottom_rows l.placer.hanging) l.placer.hanging l.positions

abbrev pub decreases-bottom : goal.decreases-bottom
decreases-bottom l = length l.placer.hanging
