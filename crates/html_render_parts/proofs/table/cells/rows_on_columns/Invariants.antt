use Rattle.std.proofs.Common.{◌≡◌, ◌++◌, drop}
use Rattle.html_render_parts.specs.Placement.{lists}
use Rattle.html_render_parts.specs.SimpleRows.{AllStoredFit, own_rows_on}
use Rattle.html_render_parts.proofs.table.cells.rows_on_columns.Given as goal

abbrev pub invariant-loop-row : goal.invariant-loop-row
invariant-loop-row l =
    let rows = lists (drop l.row l.rows) in
    let own = drop l.row l.own in record {
      made : l.cells ++ own_rows_on l.edges rows own ≡ own_rows_on l.edges (lists l.rows) l.own;
      fits : AllStoredFit rows own;
    }
