use Rattle.std.proofs.Common.{rules, ◌<◌, length, ap}
use Rattle.html_render_dom_nodes.specs.Nodes.{node_of}
use Rattle.html_render_dom_nodes.specs.Moves.{without}
use Rattle.html_render_dom_nodes.proofs.Writes.{written}
use Rattle.html_render_dom_nodes.proofs.lists.drop_child.Goals as goal

pub returns-clause-list : goal.returns-clause-list
returns-clause-list c =
    let items = c.args.nodes.now.items in
    let n = c.index_mut.result.now in
    let at : c.number.result < length items = search rules in
    let child = c.args.child in
    rw (← c.number.ensures) (written items c.number.result n _ at c.index_mut.ensures.value
    (λ x. record x { children = without child x.children })
    (ap (λ cs. record (node_of n) { children = cs }) c.drop_from.ensures.list))
