use Rattle.std.proofs.Common.{◌≡◌, ◌++◌, map}
use Rattle.html_render_layout_blocks.specs.OpenRows.{empty_cells}
use Rattle.html_render_layout_blocks.proofs.block.rows.push_rest.Given as goal

-- The cells end with the empty cells of the places so far.
abbrev pub invariant-loop-place : goal.invariant-loop-place
invariant-loop-place g l = l.cells ≡ l.fn.cells ++ empty_cells (map (λ p. p.now) l.yielded)
