use Rattle.std.proofs.Common.{take}
use Rattle.html_render_layout_nodes.specs.Depths.{open_at, Keeps}
use Rattle.html_render_layout_nodes.proofs.tree.depths.OpenSubtrees.found.Given as goal

-- the open subtrees among those of the entries before `at`
abbrev pub invariant-loop-at : goal.invariant-loop-at
invariant-loop-at l = Keeps l.open.depth l.open.ends.items (open_at l.place (take l.at l.before))
