use Rattle.std.proofs.Common.{◌≡◌, ◌-◌, length, drop}
use Rattle.html_render_dom.specs.Dom.{children_at}
use Rattle.html_render_tree_walk.specs.Walk.{ahead, picked}
use Rattle.html_render_tree_walk.proofs.cursor.next_picked.Given as goal

-- the position hasn't moved, and what is picked of the children that haven't come is the same
abbrev pub invariant-children : goal.invariant-children
invariant-children l = record {
  same : l.position ≡ l.fn.position;
  left : picked l.pick l.dom (drop l.next (children_at l.dom l.position.element)) ≡ ahead l.dom l.fn.position;
}

abbrev pub decreases-children : goal.decreases-children
decreases-children l = length l.children - l.next
