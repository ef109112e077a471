use Rattle.std.proofs.Common.{◌≡◌, IfErr, Result, Ok, Err, option_map, sym, ◌∙◌, subst}
use Rattle.std.proofs.lemmas.Result.{IfOk-weaker}
use Rattle.html_render_dom_values.specs.declared.errors.Error.{Error}
use Rattle.html_render_dom_values.specs.Outcome.{Refuses}
use Rattle.html_render_layout.specs.declared.tagging.Untagged.{Untagged as Nothing}
use Rattle.html_render_layout.specs.Layout.{layout_lines, unannotated}
use Rattle.html_render_layout.specs.laws.LayoutWorks.{empty_untagged, untagged_lines-works}
use Rattle.html_render_layout.specs.laws.Promises.{unannotated-are-lines, refuses-mapped, wide_enough}
use Rattle.html_render_layout.specs.Working.{untagged_work}
use Rattle.html_render_layout.proofs.walk.lay_out_untagged.Goals as goal
use Rattle.html_render_layout.proofs.walk.lay_out_untagged.Given.{Over}

-- the code's lines are the definition's without annotations
works : (g : Over) (c : goal.After-drop-own-2 g) →
    untagged_work {K = Nothing} g.D.TextDecorator.decoration c.in_ok-own.own.tree c.begin_with-state.result
    ≡ option_map unannotated
    (layout_lines g.D.TextDecorator.decoration c.args.settings.now c.args.tree c.args.decorator.now c.args.block)
works g c =
    let empty : c.begin_with-state.result
    ≡ empty_untagged g.D.TextDecorator.decoration c.args.settings.now (record {}) c.args.decorator.now c.args.block =
    cc (c.begin_with-state.ensures, c.in_ok-own.ensures.settings, c.in_ok-own.ensures.decorator, c.in_ok-block.ensures.ok) in
    untagged_lines-works g.D.TextDecorator.decoration c.args.settings.now c.args.tree _ c.args.decorator.now c.args.block
    (record {}) c.begin_with-state.result c.if-block-eq0.false c.in_ok-own.ensures.tree empty

pub returns-clause-ok : goal.returns-clause-ok
returns-clause-ok g c =
    IfOk-weaker c.untagged_lines_from.result _ _
    (λ lines e. unannotated-are-lines g.D.TextDecorator.decoration c.args.settings.now c.args.tree c.args.decorator.now c.args.block
    lines (sym (works g c) ∙ e)) c.untagged_lines_from.ensures.ok

pub returns-clause-err : goal.returns-clause-err
returns-clause-err g c = by c.untagged_lines_from.result c.untagged_lines_from.ensures.err
  where
    by : {X : Type 0} (r : Result X Error) →
        IfErr r (λ e. Refuses e (untagged_work {K = Nothing} g.D.TextDecorator.decoration c.in_ok-own.own.tree c.begin_with-state.result)) →
        IfErr r (λ e. Refuses e (layout_lines g.D.TextDecorator.decoration c.args.settings.now c.args.tree c.args.decorator.now c.args.block))
    by (Ok v) h = h
    by (Err e) h = refuses-mapped unannotated e _ (subst (Refuses e) (works g c) h)

pub returns-clause-never_too_narrow : goal.returns-clause-never_too_narrow
returns-clause-never_too_narrow g c =
    wide_enough g.D.TextDecorator.decoration c.args.settings.now c.args.tree c.args.decorator.now c.args.block
    c.untagged_lines_from.result (returns-clause-err g c)
