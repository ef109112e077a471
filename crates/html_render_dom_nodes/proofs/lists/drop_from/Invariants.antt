use Rattle.std.proofs.Common.{◌≡◌, ◌≤◌, length}
use Rattle.html_render_dom_nodes.specs.Moves.{without}
use Rattle.html_render_dom_nodes.proofs.lists.drop_from.Given as goal

abbrev pub invariant-dropping : goal.invariant-dropping
invariant-dropping l =
    (without l.child l.list.items ≡ without l.child l.fn.list.items) × (length l.list.items ≤ length l.fn.list.items)
    × (l.list.capacity ≡ l.fn.list.capacity)

abbrev pub decreases-dropping : goal.decreases-dropping
decreases-dropping l = length l.list.items
