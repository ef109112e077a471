use Rattle.std.proofs.Common.{◌≡◌, sum, take}
use Rattle.html_render_layout_blocks.proofs.block.rows.total.Given as goal

abbrev pub invariant-loop-width : goal.invariant-loop-width
invariant-loop-width l = l.total ≡ sum (take l.width-index l.widths)
