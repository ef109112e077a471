use Rattle.std.proofs.Common.{◌≡◌, ◌++◌}
use Rattle.html_render_tree_convert.specs.Held.{leaves}
use Rattle.html_render_tree_convert.proofs.due.put_all.Given as goal

abbrev pub invariant-loop-node : goal.invariant-loop-node
invariant-loop-node l = l.tree.items ≡ l.initial.tree.items ++ leaves l.yielded
