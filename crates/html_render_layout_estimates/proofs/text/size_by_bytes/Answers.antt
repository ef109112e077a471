use Rattle.std.proofs.Common.{◌≡◌, true, false, cond, refl, sym, subst, ◌∙◌, arith}
use Rattle.std.proofs.lemmas.Bool.{eq-eqb}
use Rattle.html_render_layout_estimates.proofs.Sizes.{Sized, not-eqb, Sized-start, Sized-plain, Sized-space, Sized-latin, Sized-end, Sized-reached}
use Rattle.html_render_layout_estimates.proofs.text.size_by_bytes.Goals.{then-loop-columns-test+else-at-text, else-loop-columns-test}
use Rattle.html_render_layout_estimates.proofs.text.size_by_bytes.Goals.{then-spaced, else-spaced, then-spaced-3, else-spaced-3}
use Rattle.html_render_layout_estimates.proofs.text.size_by_bytes.Goals as goal

pub loop-columns-init : goal.loop-columns-init
loop-columns-init c = Sized-start c.args.text.now

pub loop-columns-preserved-then-spaced-2 : goal.loop-columns-preserved-then-spaced-2
loop-columns-preserved-then-spaced-2 c =
    let low = c.if-is_letter.ensures.low in
    let high = c.if-is_letter.ensures.high in
    let step : c.if-spaced.columns ≡ cond c.loop-columns.spaced 2 1 = elim c.if-spaced.branch [
      | then-spaced w ↦ w.columns-is ∙ rw w.if-spaced.true refl
      | else-spaced w ↦ w.columns-is ∙ rw w.if-spaced.false refl
    ] in
    let plain = Sized-plain _ _ _ _ _ c.loop-columns.invariant c.if-at-text.true low high c.plain_end-end.ensures.within.0
    c.plain_end-end.ensures.within.1 c.plain_end-end.ensures.plain in
    let spaced = sym (eq-eqb _ 32 c.if-spaced-2.true) in
    subst (Sized c.args.text.now c.plain_end-end.result _) spaced
    (subst (λ n. Sized c.args.text.now c.plain_end-end.result n true) (omega (arith, step)) (plain.0 c.if-spaced-2.true))

pub loop-columns-preserved-else-spaced-2 : goal.loop-columns-preserved-else-spaced-2
loop-columns-preserved-else-spaced-2 c =
    let low = c.if-is_letter.ensures.low in
    let high = c.if-is_letter.ensures.high in
    let step : c.if-spaced.columns ≡ cond c.loop-columns.spaced 2 1 = elim c.if-spaced.branch [
      | then-spaced w ↦ w.columns-is ∙ rw w.if-spaced.true refl
      | else-spaced w ↦ w.columns-is ∙ rw w.if-spaced.false refl
    ] in
    let plain = Sized-plain _ _ _ _ _ c.loop-columns.invariant c.if-at-text.true low high c.plain_end-end.ensures.within.0
    c.plain_end-end.ensures.within.1 c.plain_end-end.ensures.plain in
    let letter = sym (not-eqb _ 32 c.if-spaced-2.false) in
    subst (Sized c.args.text.now c.plain_end-end.result _) letter
    (subst (λ n. Sized c.args.text.now c.plain_end-end.result n false) (omega (arith, step)) (plain.1 c.if-spaced-2.false))

pub loop-columns-preserved-then-is_space : goal.loop-columns-preserved-then-is_space
loop-columns-preserved-then-is_space c =
    Sized-space _ _ _ _ _ _ c.loop-columns.invariant c.if-at-text.true c.if-is_space.ensures.collapsible c.if-is_space.ensures.ascii refl refl

pub loop-columns-preserved : goal.loop-columns-preserved
loop-columns-preserved c =
    let step : c.if-spaced-3.columns ≡ cond c.loop-columns.spaced 2 1 = elim c.if-spaced-3.branch [
      | then-spaced-3 w ↦ w.columns-is ∙ rw w.if-spaced-3.true refl
      | else-spaced-3 w ↦ w.columns-is ∙ rw w.if-spaced-3.false refl
    ] in
    Sized-latin _ _ _ _ _ _ c.loop-columns.invariant (omega (arith, c.if-at-text-2.true)) c.if-byte.true
    (omega (arith, c.if-text-at-lt192.true)) (omega (arith, step)) refl

pub returns-clause-ok : goal.returns-clause-ok
returns-clause-ok c =
    elim c.loop-columns-test.branch [
      | then-loop-columns-test+else-at-text w ↦ c.min.ensures ∙ Sized-end _ _ _ _ _ c.loop-columns.invariant w.if-at-text.false
      | else-loop-columns-test w ↦ c.min.ensures ∙ Sized-reached _ _ _ _ _ c.loop-columns.invariant w.loop-columns-test.false
    ]
