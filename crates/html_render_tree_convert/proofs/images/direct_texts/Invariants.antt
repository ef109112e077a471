use Rattle.std.proofs.Common.{◌≡◌, ◌++◌, drop, string_bytes}
use Rattle.html_render_dom.specs.Dom.{children_at, trees_of}
use Rattle.html_render_tree_convert.specs.Images.{direct_texts}
use Rattle.html_render_tree_convert.proofs.images.direct_texts.Given as goal

abbrev pub invariant-loop-child : goal.invariant-loop-child
invariant-loop-child l =
    string_bytes l.texts ++ direct_texts (trees_of l.dom (drop l.child-index l.child-items))
    ≡ direct_texts (trees_of l.dom (children_at l.dom l.fn.node))
