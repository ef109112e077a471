use Rattle.std.proofs.Common.{◌≡◌, ◌<◌, ◌^◌, ◌++◌, [], drop, All}
use Rattle.html_render_parts.specs.PlacementSteps.{row_told}
use Rattle.html_render_parts.specs.SimpleRows.{cells_from}
use Rattle.html_render_parts.proofs.table.simple.put_cells.Given as goal

abbrev pub invariant-loop-span : goal.invariant-loop-span
invariant-loop-span l =
    let rest = drop l.span-index l.cells in record {
      made : l.row.items ++ cells_from l.edges l.cursor rest ≡ cells_from l.edges 0 l.cells;
      fits : All (λ n. n < 2 ^ 128) (row_told l.cursor [] rest);
    }
