use Rattle.std.proofs.Common.{ap, arith}
use Rattle.html_render_layout_estimates.specs.Children.{trees, greatest_least, total_size}
use Rattle.html_render_layout_estimates.proofs.estimate.children_of.Goals as goal

pub returns-clause-count : goal.returns-clause-count
returns-clause-count c = omega (arith, ap trees c.in_default.ensures.cases, c.loop-first.invariant.count)

pub returns-clause-min_width : goal.returns-clause-min_width
returns-clause-min_width c = omega (arith, ap greatest_least c.in_default.ensures.cases, c.loop-first.invariant.min_width)

pub returns-clause-preferred_width : goal.returns-clause-preferred_width
returns-clause-preferred_width c =
    omega (arith, ap total_size c.in_default.ensures.cases, c.loop-first.invariant.small, c.loop-first.invariant.preferred_width)
