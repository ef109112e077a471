use Rattle.std.proofs.Common.{◌≡◌, ◌==◌, ◌<◌, ℕ, zero, suc, true, false, length, sym, ap, ◌∙◌, arith}
use Rattle.std.proofs.lemmas.Bool.{true≢false}
use Rattle.std.specs.Str.{chars}
use Rattle.html_render_layout_estimates.specs.TextSize.{collapsed_columns}
use Rattle.html_render_layout_estimates.specs.Words.{word_break, joined_shapes}
use Rattle.html_render_layout_estimates.specs.WordSteps.{shape_after}
use Rattle.html_render_layout_estimates.proofs.Sizes.{space-columns}
use Rattle.html_render_layout_estimates.proofs.Shapes.{space-shape}
use Rattle.html_render_layout_estimates.proofs.text.split_space.Goals as goal

some : (n : ℕ) → (n == 0) ≡ false → 0 < n
some zero e = absurd (true≢false e)
some (suc n) e = omega arith

pub returns-clause-columns : goal.returns-clause-columns
returns-clause-columns c = λ spaced.
    space-columns c.args.text.now spaced
    (some (length c.args.text.now) (ap (λ bs. length bs == 0) (sym c.as_bytes-bytes.ensures.value) ∙ sym c.is_empty.ensures ∙ c.if-is_empty.false))
    (rw c.as_bytes-bytes.ensures.value at c.if-not-is_space.ensures.collapsible)
    (rw c.as_bytes-bytes.ensures.value at c.if-not-is_space.ensures.ascii)
    ∙ ap (λ rest. collapsed_columns true (chars rest)) (sym c.in_ok-behind.ensures.back)

pub returns-clause-shape : goal.returns-clause-shape
returns-clause-shape c = λ s.
    space-shape c.args.text.now s
    (some (length c.args.text.now) (ap (λ bs. length bs == 0) (sym c.as_bytes-bytes.ensures.value) ∙ sym c.is_empty.ensures ∙ c.if-is_empty.false))
    (rw c.as_bytes-bytes.ensures.value at c.if-not-is_space.ensures.collapsible)
    (rw c.as_bytes-bytes.ensures.value at c.if-not-is_space.ensures.ascii)
    ∙ ap (λ rest. shape_after (joined_shapes s word_break) (chars rest)) (sym c.in_ok-behind.ensures.back)
