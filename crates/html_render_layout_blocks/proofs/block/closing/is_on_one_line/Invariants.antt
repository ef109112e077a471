use Rattle.std.proofs.Common.{◌≡◌}
use Rattle.html_render_layout_blocks.specs.RowSteps.{on_one_line}
use Rattle.html_render_layout_blocks.proofs.block.closing.is_on_one_line.Given as goal

abbrev pub invariant-loop-c : goal.invariant-loop-c
invariant-loop-c l = on_one_line l.yielded ≡ l.yielded
