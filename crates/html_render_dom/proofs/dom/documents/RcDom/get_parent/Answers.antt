use Rattle.std.proofs.Common.{ap, ◌∙◌}
use Rattle.html_render_dom.specs.laws.Forests.{IfSome-parent}
use Rattle.html_render_dom.proofs.dom.documents.RcDom.get_parent.Goals as goal

pub returns-clause-is_node : goal.returns-clause-is_node
returns-clause-is_node c = IfSome-parent c.args.self.now c.entry.ensures.forest c.args.node _
    (c.get.ensures ∙ ap (λ n. n.parent) c.entry.ensures.node)
