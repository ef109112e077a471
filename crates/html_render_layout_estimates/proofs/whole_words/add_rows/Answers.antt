use Rattle.std.proofs.Common.{◌++◌, drop, sym, ap, ◌∙◌, append-nil}
use Rattle.html_render_layout_estimates.specs.CellSteps.{cell_words}
use Rattle.html_render_layout_estimates.proofs.WordSpans.{cell_words-without}
use Rattle.html_render_layout_estimates.proofs.whole_words.add_rows.Goals as goal

pub returns-in_default : goal.returns-in_default
returns-in_default c =
    let items = c.loop-at.spans.items in
    let left = drop c.loop-at.at c.args.rows.now in
    sym (append-nil items) ∙ ap (λ l. items ++ l) (sym (cell_words-without left))
    ∙ ap (λ t. items ++ cell_words left t) (sym c.in_default.ensures.cases) ∙ c.loop-at.invariant.words
