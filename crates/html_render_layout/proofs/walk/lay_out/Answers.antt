use Rattle.std.proofs.Common.{◌≡◌, Some, IfOk, IfErr, refl, sym, ◌∙◌, subst}
use Rattle.std.proofs.lemmas.Result.{IfOk-weaker}
use Rattle.html_render_dom_values.specs.Outcome.{Refuses}
use Rattle.html_render_layout_nodes.specs.laws.Counts.{none-counted}
use Rattle.html_render_layout.specs.Layout.{by_stacks, empty_state, estimated, layout_lines, layout_of}
use Rattle.html_render_layout.specs.laws.LayoutWorks.{empty_worked, layout_lines-works, mark_names-works, counts-work}
use Rattle.html_render_layout.specs.laws.Promises.{are-lines, wide_enough}
use Rattle.html_render_layout.specs.Working.{work_lines}
use Rattle.html_render_layout_tagged.specs.LaidOut.{laid_out}
use Rattle.html_render_layout.proofs.walk.lay_out.Goals as goal
use Rattle.html_render_layout.proofs.walk.lay_out.Given.{Over}

-- the state in which the layout begins is the empty one
empty : (g : Over) (c : goal.After-drop-own-2 g) →
    c.begin_with-state.result ≡ empty_worked g.D.TextDecorator.decoration c.args.settings.now c.args.decorator.now c.args.block
empty g c = cc (c.begin_with-state.ensures, c.in_ok-own.ensures.settings, c.in_ok-own.ensures.decorator, c.new.ensures, c.in_ok-block.ensures.ok)

-- the code's lines are the definition's
works : (g : Over) (c : goal.After-drop-own-2 g) →
    work_lines g.D.TextDecorator.decoration c.in_ok-own.own.tree c.begin_with-state.result
    ≡ layout_lines g.D.TextDecorator.decoration c.args.settings.now c.args.tree c.args.decorator.now c.args.block
works g c =
    layout_lines-works g.D.TextDecorator.decoration c.args.settings.now c.args.tree _ c.args.decorator.now c.args.block
    c.begin_with-state.result c.if-block-eq0.false c.in_ok-own.ensures.tree (empty g c)

pub returns-clause-ok : goal.returns-clause-ok
returns-clause-ok g c =
    IfOk-weaker c.lines_from.result _ _
    (λ lines e. are-lines g.D.TextDecorator.decoration c.args.settings.now c.args.tree c.args.decorator.now c.args.block
    (laid_out lines) (sym (works g c) ∙ e)) c.lines_from.ensures.ok

pub returns-clause-names : goal.returns-clause-names
returns-clause-names g c =
    subst (λ o. IfOk c.lines_from.result (λ lines. o ≡ Some lines.names))
    (mark_names-works g.D.TextDecorator.decoration c.args.settings.now c.args.tree _ c.args.decorator.now c.args.block
    c.begin_with-state.result c.if-block-eq0.false c.in_ok-own.ensures.tree (empty g c)) c.lines_from.ensures.names

pub returns-clause-err : goal.returns-clause-err
returns-clause-err g c = subst (λ o. IfErr c.lines_from.result (λ e. Refuses e o)) (works g c) c.lines_from.ensures.err

pub returns-clause-never_too_narrow : goal.returns-clause-never_too_narrow
returns-clause-never_too_narrow g c =
    wide_enough g.D.TextDecorator.decoration c.args.settings.now c.args.tree c.args.decorator.now c.args.block c.lines_from.result
    (returns-clause-err g c)

-- counts of the walk
pub returns-clause-counts : goal.returns-clause-counts
returns-clause-counts g c =
    counts-work g.D.TextDecorator.decoration c.args.settings.now c.lines_from.result c.args.tree _ c.args.decorator.now c.args.block
    c.begin_with-state.result _ _ _ c.in_ok-own.ensures.tree (empty g c) refl c.lines_from.ensures.counts

pub returns-then-block-eq0-clause-counts : goal.returns-then-block-eq0-clause-counts
returns-then-block-eq0-clause-counts g c =
    none-counted _ (λ e. Unit {0}) tt (layout_of (by_stacks g.D.TextDecorator.decoration))
    (estimated g.D.TextDecorator.decoration c.args.settings.now c.args.decorator.now c.args.tree)
    (empty_state g.D.TextDecorator.decoration c.args.settings.now c.args.decorator.now c.args.block) _ _ refl refl refl refl

pub returns-in_err-own-clause-counts : goal.returns-in_err-own-clause-counts
returns-in_err-own-clause-counts g c =
    none-counted _ _ c.from_residual.ensures.1 (layout_of (by_stacks g.D.TextDecorator.decoration))
    (estimated g.D.TextDecorator.decoration c.args.settings.now c.args.decorator.now c.args.tree)
    (empty_state g.D.TextDecorator.decoration c.args.settings.now c.args.decorator.now c.args.block) _ _ refl refl refl refl

pub returns-in_err-block-clause-counts : goal.returns-in_err-block-clause-counts
returns-in_err-block-clause-counts g c =
    none-counted _ _ c.from_residual-in_err-block.ensures.1 (layout_of (by_stacks g.D.TextDecorator.decoration))
    (estimated g.D.TextDecorator.decoration c.args.settings.now c.args.decorator.now c.args.tree)
    (empty_state g.D.TextDecorator.decoration c.args.settings.now c.args.decorator.now c.args.block) _ _ refl refl refl refl
