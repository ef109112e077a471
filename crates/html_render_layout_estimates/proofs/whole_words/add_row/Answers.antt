use Rattle.std.proofs.Common.{◌++◌, drop, sym, ap, ◌∙◌, append-nil}
use Rattle.html_render_layout_estimates.specs.CellSteps.{row_words}
use Rattle.html_render_layout_estimates.proofs.WordSpans.{row_words-without}
use Rattle.html_render_layout_estimates.proofs.whole_words.add_row.Goals as goal

pub returns-in_default : goal.returns-in_default
returns-in_default c =
    let items = c.loop-cell.spans.items in
    let left = drop c.loop-cell.cell-index c.args.cells.now in
    sym (append-nil items) ∙ ap (λ l. items ++ l) (sym (row_words-without left))
    ∙ ap (λ t. items ++ row_words left t) (sym c.in_default.ensures.cases) ∙ c.loop-cell.invariant.words
