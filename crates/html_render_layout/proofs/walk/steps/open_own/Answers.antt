use Rattle.std.proofs.Common.{option_and_then, subst, sym, ap, refl, ◌∙◌}
use Rattle.std.proofs.lemmas.Result.{IfOk-weaker, IfErr-weaker}
use Rattle.html_render_dom_values.specs.Outcome.{Refuses}
use Rattle.html_render_dom_values.specs.laws.Outcome.{Refuses-then}
use Rattle.html_render_layout_nodes.specs.Preorder.{forest_of}
use Rattle.html_render_layout.specs.Opening.{keeping}
use Rattle.html_render_layout.specs.Working.{by_tags}
use Rattle.html_render_layout.specs.laws.Opening.{opened-by}
use Rattle.html_render_layout.proofs.walk.steps.open_own.Goals as goal

pub returns-clause-ok : goal.returns-clause-ok
returns-clause-ok g c =
    let m = by_tags g.D.TextDecorator.decoration g.G.Tagging.annotated in
    let s = c.args.state.now in
    IfOk-weaker c.open_kind.result _ _
    (λ k e item. opened-by m item c.in_ok-own.own c.args.node.now (forest_of c.args.children.now) s _ _
    c.in_ok-begin_style.ensures.ok c.in_ok-own.ensures.ok
    ∙ ap (option_and_then (λ w. keeping m item s.text w)) e)
    c.open_kind.ensures.ok

pub returns-clause-err : goal.returns-clause-err
returns-clause-err g c =
    let m = by_tags g.D.TextDecorator.decoration g.G.Tagging.annotated in
    let s = c.args.state.now in
    IfErr-weaker c.open_kind.result _ _
    (λ e k item. subst (λ o. Refuses e o)
    (sym (opened-by m item c.in_ok-own.own c.args.node.now (forest_of c.args.children.now) s _ _
    c.in_ok-begin_style.ensures.ok c.in_ok-own.ensures.ok))
    (Refuses-then e _ (λ w. keeping m item s.text w) k))
    c.open_kind.ensures.err
