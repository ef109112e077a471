use Rattle.std.proofs.Common.{◌≡◌, ◌-◌, drop, slice_get}
use Rattle.html_render_dom.specs.Dom.{children_at}
use Rattle.html_render_dom.specs.Paths.{elements_of}
use Rattle.html_render_dom.proofs.dom.documents.RcDom.nth_child.Given as goal

abbrev pub invariant-loop-child : goal.invariant-loop-child
invariant-loop-child l =
    slice_get (elements_of l.self (children_at l.self l.fn.node)) (l.fn.index - 1)
    ≡ slice_get (elements_of l.self (drop l.child-index l.child-items)) l.passed
