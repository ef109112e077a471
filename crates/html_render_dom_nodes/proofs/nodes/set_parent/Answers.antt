use Rattle.std.proofs.Common.{rules, ◌<◌, length, ap}
use Rattle.html_render_dom_nodes.specs.Nodes.{node_of}
use Rattle.html_render_dom_nodes.proofs.Writes.{written}
use Rattle.html_render_dom_nodes.proofs.nodes.set_parent.Goals as goal

pub returns-clause-parent : goal.returns-clause-parent
returns-clause-parent c =
    let items = c.args.nodes.now.items in
    let n = c.index_mut.result.now in
    let at : c.number.result < length items = search rules in
    let parent = c.args.parent in
    rw (← c.number.ensures) (written items c.number.result n _ at c.index_mut.ensures.value
    (λ x. record x { parent = parent }) (ap (λ p. record (node_of n) { parent = p }) c.of.ensures))
