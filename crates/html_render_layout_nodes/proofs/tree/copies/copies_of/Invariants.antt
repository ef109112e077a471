use Rattle.std.proofs.Common.{◌≡◌, take}
use Rattle.html_render_layout_nodes.proofs.tree.copies.copies_of.Given as goal

-- the entries before `entry-index` are copied
abbrev pub invariant-loop-entry : goal.invariant-loop-entry
invariant-loop-entry l = l.copies.items ≡ take l.entry-index l.entries
