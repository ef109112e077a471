use Rattle.std.proofs.Common.{map, ap, ◌∙◌}
use Rattle.std.proofs.lemmas.Result.{IfOk-weaker}
use Rattle.std.specs.List.{range_with_len}
use Rattle.html_render_parts_widths.specs.Spans.{greatest_at}
use Rattle.html_render_layout_nodes.specs.Preorder.{forest_of}
use Rattle.html_render_layout_estimates.specs.CellSteps.{cell_words}
use Rattle.html_render_layout_estimates.proofs.WordSpans.{greatest_are}
use Rattle.html_render_layout_estimates.proofs.whole_words.column_words.Goals as goal

pub returns : goal.returns
returns c = IfOk-weaker c.greatest_values.result _ _ (λ words are.
    greatest_are _ _ _ are
    ∙ ap (λ s. map (greatest_at s) (range_with_len 0 c.columns.result)) (c.as_slice.ensures.value ∙ c.in_ok-spans.ensures.ok)
    ∙ ap (λ n. map (greatest_at (cell_words c.args.grid.now.rows (forest_of c.args.rows.now))) (range_with_len 0 n)) c.columns.ensures) c.greatest_values.ensures
