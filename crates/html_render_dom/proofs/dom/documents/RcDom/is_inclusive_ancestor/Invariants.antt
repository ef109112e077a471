use Rattle.std.proofs.Common.{◌-◌, ◌↔◌}
use Rattle.html_render_dom_values.specs.Forest.{depth}
use Rattle.html_render_dom.specs.Dom.{IsNode, IsInclusiveAncestor, node_count, tree_of}
use Rattle.html_render_dom.proofs.dom.documents.RcDom.is_inclusive_ancestor.Given as goal

abbrev pub invariant-loop-ancestor : goal.invariant-loop-ancestor
invariant-loop-ancestor l = IsNode l.self l.at × (IsInclusiveAncestor l.self l.ancestor l.fn.node ↔ IsInclusiveAncestor l.self l.ancestor l.at)

abbrev pub decreases-loop-ancestor : goal.decreases-loop-ancestor
decreases-loop-ancestor l = node_count l.self - depth (tree_of l.self l.at)
