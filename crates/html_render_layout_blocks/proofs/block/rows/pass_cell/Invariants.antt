use Rattle.std.proofs.Common.{◌≡◌, ◌++◌, length, reverse}
use Rattle.html_render_layout_blocks.specs.OpenRows.{empty_cells}
use Rattle.html_render_layout_blocks.specs.RowSteps.{after_cell, before_cell}
use Rattle.html_render_layout_blocks.proofs.block.rows.pass_cell.Given as goal

-- The result is that of passing the next cell in the remaining places.
abbrev pub invariant-loop-place : goal.invariant-loop-place
invariant-loop-place g l = record {
  ahead : after_cell (reverse l.initial.ahead.items) ≡ after_cell (reverse l.ahead.items);
  cells : l.initial.cells ++ empty_cells (before_cell (reverse l.initial.ahead.items))
      ≡ l.cells ++ empty_cells (before_cell (reverse l.ahead.items));
}

abbrev pub decreases-loop-place : goal.decreases-loop-place
decreases-loop-place g l = length l.ahead.items
