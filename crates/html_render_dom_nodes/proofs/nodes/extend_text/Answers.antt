use Rattle.std.proofs.Common.{rules, ◌<◌, length, ap, sym, ◌∙◌}
use Rattle.std.proofs.lemmas.Result.{err_from_is_err_and}
use Rattle.html_render_dom_nodes.specs.Content.{content_of, text}
use Rattle.html_render_dom_nodes.specs.Nodes.{node_of}
use Rattle.html_render_dom_nodes.specs.Edits.{joined}
use Rattle.html_render_dom_nodes.proofs.Writes.{written, written-same}
use Rattle.html_render_dom_nodes.proofs.nodes.extend_text.Goals as goal

pub returns-in_err-push_str-clause-err : goal.returns-in_err-push_str-clause-err
returns-in_err-push_str-clause-err c =
    let p = err_from_is_err_and c.from_residual.result c.from_residual.ensures.1 in
    let items = c.args.nodes.now.items in
    let n = c.index_mut.result.now in
    let at : c.number.result < length items = search rules in
    rw p.1 (written-same items c.number.result n _ at c.index_mut.ensures.value
    (ap (λ d. record (node_of n) { content = d }) (ap text c.in_err-push_str.ensures.err ∙ ap content_of (sym c.in-Text.is))))

pub returns-in_ok-push_str-clause-ok : goal.returns-in_ok-push_str-clause-ok
returns-in_ok-push_str-clause-ok c =
    let items = c.args.nodes.now.items in
    let n = c.index_mut.result.now in
    let at : c.number.result < length items = search rules in
    let more = c.args.more.now in
    rw (← c.number.ensures) (written items c.number.result n _ at c.index_mut.ensures.value
    (λ x. record x { content = joined x.content more })
    (ap (λ d. record (node_of n) { content = d }) (ap text c.in_ok-push_str.ensures.ok
    ∙ ap (λ d. joined (content_of d) more) (sym c.in-Text.is))))
