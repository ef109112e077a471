use Rattle.std.proofs.Common.{rules, ◌<◌, length, ap, sym, ◌∙◌, [], ◌∷◌}
use Rattle.std.proofs.lemmas.Result.{err_from_is_err_and}
use Rattle.html_render_dom_nodes.specs.Content.{content_of, name_of, property_of, element}
use Rattle.html_render_dom_nodes.specs.Nodes.{node_of}
use Rattle.html_render_dom_nodes.specs.Elements.{completed}
use Rattle.html_render_dom_nodes.proofs.Writes.{written, written-same}
use Rattle.html_render_dom_nodes.proofs.nodes.complete_one.Goals as goal

pub returns-in_err-add_one_missing-clause-err : goal.returns-in_err-add_one_missing-clause-err
returns-in_err-add_one_missing-clause-err c =
    let p = err_from_is_err_and c.from_residual.result c.from_residual.ensures.1 in
    let items = c.args.nodes.now.items in
    let n = c.index_mut.result.now in
    let at : c.number.result < length items = search rules in
    let e = c.in-Element in
    rw p.1 (written-same items c.number.result n _ at c.index_mut.ensures.value
    (ap (λ d. record (node_of n) { content = d })
    (ap (λ ps. element (name_of e.name) ps e.template_contents e.mathml_annotation_xml_integration_point)
    c.in_err-add_one_missing.ensures.err ∙ ap content_of (sym e.is))))

pub returns-in_ok-add_one_missing-clause-ok : goal.returns-in_ok-add_one_missing-clause-ok
returns-in_ok-add_one_missing-clause-ok c =
    let items = c.args.nodes.now.items in
    let n = c.index_mut.result.now in
    let at : c.number.result < length items = search rules in
    let e = c.in-Element in
    let given = property_of c.args.given ∷ [] in
    rw (← c.number.ensures) (written items c.number.result n _ at c.index_mut.ensures.value
    (λ x. record x { content = completed x.content given })
    (ap (λ d. record (node_of n) { content = d })
    (ap (λ ps. element (name_of e.name) ps e.template_contents e.mathml_annotation_xml_integration_point)
    c.in_ok-add_one_missing.ensures.ok ∙ ap (λ d. completed (content_of d) given) (sym e.is))))
