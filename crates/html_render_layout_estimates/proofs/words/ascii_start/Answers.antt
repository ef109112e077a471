use Rattle.std.proofs.Common.{◌+◌, sym, subst, arith}
use Rattle.html_render_layout_estimates.proofs.Shapes.{Words, letters-shape, Words-start, Words-letter, Words-space}
use Rattle.html_render_layout_estimates.proofs.words.ascii_start.Goals as goal

pub returns-then-first-text : goal.returns-then-first-text
returns-then-first-text c = λ some before.
    letters-shape c.args.text.now before c.letters_end-first.result some c.letters_end-first.ensures.within.1 c.letters_end-first.ensures.letters

pub loop-at-init : goal.loop-at-init
loop-at-init c =
    Words-start c.args.text.now c.letters_end-first.result (omega arith) c.letters_end-first.ensures.letters
    c.if-not-is_space.ensures.collapsible c.if-not-is_space.ensures.ascii

pub loop-at-preserved-then-is_letter : goal.loop-at-preserved-then-is_letter
loop-at-preserved-then-is_letter c =
    Words-letter _ _ _ _ _ c.loop-at.invariant (omega arith) (omega (arith, c.loop-at.invariant.few)) c.if-is_letter.ensures.low c.if-is_letter.ensures.high

pub loop-at-preserved : goal.loop-at-preserved
loop-at-preserved c =
    subst (λ m. Words c.args.text.now c.letters_end-first.result m 0 (c.loop-at.at + 1)) (sym c.max-longest.ensures)
    (Words-space _ _ _ _ _ c.loop-at.invariant (omega arith) (omega (arith, c.loop-at.invariant.few)) c.if-is_space.ensures.collapsible c.if-is_space.ensures.ascii)
