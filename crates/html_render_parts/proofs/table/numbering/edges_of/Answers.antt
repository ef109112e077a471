use Rattle.std.proofs.Common.{ap, ◌∙◌}
use Rattle.html_render_parts.specs.Placement.{rising}
use Rattle.html_render_parts.proofs.EdgeRanks.{IsStrictlyIncreasing-rising}
use Rattle.html_render_parts.proofs.table.numbering.edges_of.Goals as goal

pub returns-clause-edges : goal.returns-clause-edges
returns-clause-edges c = c.in_ok-make_rising.ensures ∙ ap rising c.in_ok-edges.ensures

pub returns-clause-rising : goal.returns-clause-rising
returns-clause-rising c = rw c.in_ok-make_rising.ensures (IsStrictlyIncreasing-rising c.in_ok-edges.edges.items)
