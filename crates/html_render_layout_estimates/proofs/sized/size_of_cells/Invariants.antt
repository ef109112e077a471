use Rattle.std.proofs.Common.{◌≡◌, ◌*◌, ◌/◌, take}
use Rattle.std.specs.Prelude.{sum_by}
use Rattle.html_render_layout_estimates.specs.TextSize.{saturated}
use Rattle.html_render_layout_estimates.proofs.sized.size_of_cells.Given as goal

abbrev pub invariant-loop-cell : goal.invariant-loop-cell
invariant-loop-cell l = l.preferred_width ≡ saturated (sum_by (λ c. c.preferred_width / c.count * c.count) (take l.cell-index l.cells))
