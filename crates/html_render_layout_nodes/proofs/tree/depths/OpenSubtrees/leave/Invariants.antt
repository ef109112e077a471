use Rattle.std.proofs.Common.{length}
use Rattle.html_render_layout_nodes.specs.Depths.{open_at}
use Rattle.html_render_layout_nodes.proofs.Depths.{Leaving}
use Rattle.html_render_layout_nodes.proofs.tree.depths.OpenSubtrees.leave.Given as goal

abbrev pub invariant-leaving : goal.invariant-leaving
invariant-leaving l = Leaving l.self.depth l.self.ends.items l.place (open_at l.place l.before)

abbrev pub decreases-leaving : goal.decreases-leaving
decreases-leaving l = length l.self.ends.items
