use Rattle.std.proofs.Common.{None, sym, ap, ◌∙◌}
use Rattle.std.proofs.lemmas.Result.{on_ok_weaker}
use Rattle.html_render_layout_blocks.specs.declared.block.tables.OpenTable.TheVariants.{Across}
use Rattle.html_render_layout_blocks.specs.Machine.{machine}
use Rattle.html_render_layout_blocks.specs.Tables.{with_open, with_row_over}
use Rattle.html_render_layout_blocks.proofs.block.cells.OpenTable+Picture+T+M+T+M.end_row.Goals as goal

pub returns-in-Across-clause-ok : goal.returns-in-Across-clause-ok
returns-in-Across-clause-ok g c =
    let widths = c.in-Across.widths in
    let ahead = c.in-Across.ahead in
    on_ok_weaker c.add_open.result
    (λ e. ap (λ o. Across c.add_open.new.picture c.add_open.new.widths ahead o) c.take.ensures.after
    ∙ ap (λ w. Across c.add_open.new.picture w ahead None) c.add_open.ensures.widths
    ∙ ap (λ p. Across p widths ahead None) (e ∙ ap (λ o. with_open machine c.in-Across.picture o) c.take.ensures.value)
    ∙ ap (λ t. with_row_over machine t) (sym c.in-Across.is))
    c.add_open.ensures.ok
