use Rattle.std.proofs.Common.{◌≡◌, ◌+◌, ◌-◌, ◌<◌, ◌++◌, length, sum, drop}
use Rattle.html_render_layout_blocks.specs.OpenRows.{places}
use Rattle.html_render_layout_blocks.proofs.block.rows.put_places.Given as goal

-- All places are those so far, followed by those of the remaining cells over the remaining columns.
abbrev pub invariant-loop-cell : goal.invariant-loop-cell
invariant-loop-cell l = record {
  all : places l.initial.rest l.cells ≡ l.row.items ++ places l.rest (drop l.cell-index l.cells);
  fit : sum l.rest + (length l.rest - 1) < 18446744073709551616;
}
