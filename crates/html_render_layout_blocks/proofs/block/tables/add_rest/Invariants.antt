use Rattle.std.proofs.Common.{◌≡◌, length}
use Rattle.html_render_layout_blocks.specs.Machine.{machine}
use Rattle.html_render_layout_blocks.specs.Tables.{with_open, with_ahead}
use Rattle.html_render_layout_blocks.proofs.block.tables.add_rest.Given as goal

-- The result is that of adding the remaining rows to the present picture.
abbrev pub invariant-loop-cells : goal.invariant-loop-cells
invariant-loop-cells g l = record {
  rest : with_ahead machine l.fn.widths l.fn.ahead (with_open machine l.fn.picture l.fn.row) ≡ with_ahead machine l.fn.widths l.ahead l.picture;
  widths : l.widths ≡ l.fn.widths;
}

abbrev pub decreases-loop-cells : goal.decreases-loop-cells
decreases-loop-cells g l = length l.ahead
