use Rattle.std.proofs.Common.{◌≡◌, ◌++◌, [], drop}
use Rattle.html_render_parts.specs.Placement.{row_from}
use Rattle.html_render_parts.specs.PlacementSteps.{row_fits, row_told}
use Rattle.html_render_parts.proofs.table.simple.put_ends.Given as goal

abbrev pub invariant-loop-span : goal.invariant-loop-span
invariant-loop-span l =
    let rest = drop l.span-index l.cells in record {
      told : l.ends.items ++ row_told l.cursor [] rest ≡ row_told 0 [] l.cells;
      fits : row_fits (row_from 0 [] l.cells) ≡ row_fits (row_from l.cursor [] rest);
    }
