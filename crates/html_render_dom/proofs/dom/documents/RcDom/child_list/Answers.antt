use Rattle.std.proofs.Common.{◌∙◌, ap}
use Rattle.html_render_dom.specs.laws.Forests.{All-children}
use Rattle.html_render_dom.proofs.dom.documents.RcDom.child_list.Goals as goal

pub returns-clause-nodes : goal.returns-clause-nodes
returns-clause-nodes c =
    All-children c.args.self.now c.entry.ensures.forest c.args.node _ (c.as_slice.ensures ∙ ap (λ n. n.children) c.entry.ensures.node)
