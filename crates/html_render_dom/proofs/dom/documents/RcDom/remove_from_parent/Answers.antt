use Rattle.std.proofs.Common.{Some, sym, ◌∙◌}
use Rattle.html_render_dom_nodes.specs.Moves.{taken_out}
use Rattle.html_render_dom.proofs.Moves.{IsForest-out}
use Rattle.html_render_dom.proofs.Changed.{IsForest-changed}
use Rattle.html_render_dom.proofs.dom.documents.RcDom.remove_from_parent.Goals as goal

pub invariant_of-self : goal.invariant_of-self
invariant_of-self c =
    IsForest-changed (λ ns. taken_out ns (Some c.in-Some.parent) c.args.node) c.self.view_is c.self.invariant
    (λ f. IsForest-out c.args.self.now f c.in-Some.parent c.args.node (sym c.get_parent.ensures.parent ∙ c.in-Some.is)) _
    c.take_out.ensures.taken_out
