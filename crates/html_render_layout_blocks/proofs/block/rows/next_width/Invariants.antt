use Rattle.std.proofs.Common.{◌≡◌, length, reverse}
use Rattle.html_render_layout_blocks.specs.OpenRows.{next_width}
use Rattle.html_render_layout_blocks.proofs.block.rows.next_width.Given as goal

abbrev pub invariant-loop-place : goal.invariant-loop-place
invariant-loop-place l = next_width (reverse l.ahead) ≡ next_width (reverse l.rest)

abbrev pub decreases-loop-place : goal.decreases-loop-place
decreases-loop-place l = length l.rest
