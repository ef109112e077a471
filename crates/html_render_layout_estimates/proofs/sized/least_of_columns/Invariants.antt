use Rattle.std.proofs.Common.{◌≡◌, take}
use Rattle.std.specs.Prelude.{sum_by}
use Rattle.html_render_layout_estimates.specs.TextSize.{saturated}
use Rattle.html_render_layout_estimates.proofs.sized.least_of_columns.Given as goal

abbrev pub invariant-loop-need : goal.invariant-loop-need
invariant-loop-need l = l.min_width ≡ saturated (sum_by (λ n. n.min_width) (take l.need-index l.needs))
