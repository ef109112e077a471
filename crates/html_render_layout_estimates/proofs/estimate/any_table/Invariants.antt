use Rattle.std.proofs.Common.{◌≡◌, drop}
use Rattle.html_render_layout_estimates.proofs.Again.{any_table}
use Rattle.html_render_layout_estimates.proofs.estimate.any_table.Given as goal

-- the nodes not yet visited have a table exactly if all nodes have one
abbrev pub invariant-loop-entry : goal.invariant-loop-entry
invariant-loop-entry l = any_table (drop l.entry-index l.entries) ≡ any_table l.entries
