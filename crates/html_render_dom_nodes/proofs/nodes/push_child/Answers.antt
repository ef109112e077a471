use Rattle.std.proofs.Common.{rules, ◌<◌, length, ap, ◌++◌, ◌∷◌, []}
use Rattle.std.proofs.lemmas.Result.{err_from_is_err_and}
use Rattle.html_render_dom_nodes.specs.Nodes.{node_of}
use Rattle.html_render_dom_nodes.proofs.Writes.{written, written-same}
use Rattle.html_render_dom_nodes.proofs.nodes.push_child.Goals as goal

pub returns-in_err-put_last-clause-err : goal.returns-in_err-put_last-clause-err
returns-in_err-put_last-clause-err c =
    let p = err_from_is_err_and c.from_residual.result c.from_residual.ensures.1 in
    let items = c.args.nodes.now.items in
    let n = c.index_mut.result.now in
    let at : c.number.result < length items = search rules in
    rw p.1 (written-same items c.number.result n _ at c.index_mut.ensures.value
    (ap (λ cs. record (node_of n) { children = cs }) c.in_err-put_last.ensures.err))

pub returns-clause-ok : goal.returns-clause-ok
returns-clause-ok c =
    let items = c.args.nodes.now.items in
    let n = c.index_mut.result.now in
    let at : c.number.result < length items = search rules in
    let child = c.args.child in
    rw (← c.number.ensures) (written items c.number.result n _ at c.index_mut.ensures.value
    (λ x. record x { children = x.children ++ child ∷ [] })
    (ap (λ cs. record (node_of n) { children = cs }) c.in_ok-put_last.ensures.ok))
