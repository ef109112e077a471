use Rattle.std.proofs.Common.{rules, ◌<◌, length, ap}
use Rattle.html_render_dom_nodes.specs.Nodes.{node_of}
use Rattle.html_render_dom_nodes.proofs.Writes.{written-same}
use Rattle.html_render_dom_nodes.proofs.lists.reserve_children.Goals as goal

pub returns-clause-same : goal.returns-clause-same
returns-clause-same c =
    let items = c.args.nodes.now.items in
    let n = c.index_mut.result.now in
    let at : c.number.result < length items = search rules in
    written-same items c.number.result n _ at c.index_mut.ensures.value
    (ap (λ cs. record (node_of n) { children = cs }) c.reserve.ensures.items)
