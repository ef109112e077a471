use Rattle.std.proofs.Common.{◌+◌, cond, false, sym, ap, ◌∙◌, arith}
use Rattle.std.specs.Str.{chars}
use Rattle.html_render_layout_estimates.specs.TextSize.{collapsed_columns}
use Rattle.html_render_layout_estimates.specs.Words.{joined_shapes}
use Rattle.html_render_layout_estimates.specs.WordSteps.{shape_after}
use Rattle.html_render_layout_estimates.specs.declared.words.WordShape.TheVariants.{Part}
use Rattle.html_render_layout_estimates.proofs.Sizes.{letters-columns}
use Rattle.html_render_layout_estimates.proofs.Shapes.{letters-shape}
use Rattle.html_render_layout_estimates.proofs.text.split_letters.Goals as goal

pub returns-clause-columns : goal.returns-clause-columns
returns-clause-columns c = λ spaced.
    let text = c.args.text.now in
    let n = c.letters_end-letters.result in
    letters-columns text spaced n (omega (arith, c.if-letters-eq0.false)) (omega (arith, c.letters_end-letters.ensures.within.1, c.as_bytes.ensures.len))
    (rw c.as_bytes.ensures.value at c.letters_end-letters.ensures.letters)
    ∙ ap (λ rest. cond spaced 1 0 + n + collapsed_columns false (chars rest)) (sym c.in_ok-behind.ensures.back)

pub returns-clause-shape : goal.returns-clause-shape
returns-clause-shape c = λ s.
    let text = c.args.text.now in
    let n = c.letters_end-letters.result in
    letters-shape text s n (omega (arith, c.if-letters-eq0.false)) (omega (arith, c.letters_end-letters.ensures.within.1, c.as_bytes.ensures.len))
    (rw c.as_bytes.ensures.value at c.letters_end-letters.ensures.letters)
    ∙ ap (λ rest. shape_after (joined_shapes s (Part n)) (chars rest)) (sym c.in_ok-behind.ensures.back)
