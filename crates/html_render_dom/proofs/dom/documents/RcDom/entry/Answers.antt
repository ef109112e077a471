use Rattle.std.proofs.Common.{◌<◌, length, ap, sym, ◌∙◌, arith}
use Rattle.std.proofs.lemmas.List.{length-map}
use Rattle.html_render_dom_nodes.specs.Nodes.{node_in, node_of}
use Rattle.html_render_dom_nodes.specs.laws.Nodes.{node_in-map}
use Rattle.html_render_dom.proofs.dom.documents.RcDom.entry.Goals as goal

pub returns-clause-node : goal.returns-clause-node
returns-clause-node c =
    let items = c.self.inside.nodes.items in
    let at : c.number.result < length items =
    omega (arith, length-map items node_of, ap (λ d. length d.nodes) c.self.view_is, c.number.ensures, c.requires) in
    let read = node_in-map items c.number.result c.index.result.now at c.index.ensures in
    sym read ∙ (rw c.number.ensures (ap (λ d. node_in d.nodes c.args.node) c.self.view_is))
