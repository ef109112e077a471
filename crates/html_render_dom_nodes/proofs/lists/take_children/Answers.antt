use Rattle.std.proofs.Common.{rules, ◌<◌, length, ap, [], ◌∙◌}
use Rattle.html_render_dom_nodes.specs.Nodes.{node_of}
use Rattle.html_render_dom_nodes.proofs.Writes.{written}
use Rattle.html_render_dom_nodes.proofs.lists.take_children.Goals as goal

pub returns-clause-cleared : goal.returns-clause-cleared
returns-clause-cleared c =
    let items = c.args.nodes.now.items in
    let n = c.index_mut.result.now in
    let at : c.number.result < length items = search rules in
    rw (← c.number.ensures) (written items c.number.result n _ at c.index_mut.ensures.value (λ x. record x { children = [] })
    (ap (λ cs. record (node_of n) { children = cs }) (ap (λ v. v.items) c.replace.ensures.after ∙ c.new.ensures.items)))
