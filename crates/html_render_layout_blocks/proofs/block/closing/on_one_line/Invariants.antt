use Rattle.std.proofs.Common.{◌≡◌}
use Rattle.std.specs.Prelude.{string_bytes}
use lib.Utf8.{encodes}
use Rattle.html_render_layout_blocks.specs.RowSteps.{on_one_line}
use Rattle.html_render_layout_blocks.proofs.block.closing.on_one_line.Given as goal

abbrev pub invariant-loop-c : goal.invariant-loop-c
invariant-loop-c l = string_bytes l.line ≡ encodes (on_one_line l.yielded)
