use Rattle.std.proofs.Common.{◌≡◌, IfSome, drop, option_map, unwrap_or}
use Rattle.html_render_dom.specs.Dom.{IsNode, below, children_at, node_count, trees_of}
use Rattle.html_render_dom_values.specs.Forest.{none}
use Rattle.html_render_tree_convert.specs.Images.{in_last_title}
use Rattle.html_render_tree_convert.proofs.images.last_title.Given as goal

abbrev pub invariant-loop-child : goal.invariant-loop-child
invariant-loop-child l =
    IfSome l.title (IsNode l.dom) ×
    (in_last_title (unwrap_or (option_map (below (node_count l.dom) l.dom) l.title) none) (trees_of l.dom (drop l.child-index l.child-items))
    ≡ in_last_title none (trees_of l.dom (children_at l.dom l.fn.node)))
