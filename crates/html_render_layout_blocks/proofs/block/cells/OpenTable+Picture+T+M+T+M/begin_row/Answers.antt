use Rattle.std.proofs.Common.{◌≡◌, Some, None, drop, sym, ap, ◌∙◌}
use Rattle.html_render_layout_blocks.specs.declared.block.tables.OpenTable.TheVariants.{Across}
use Rattle.html_render_layout_blocks.specs.Tables.{with_row_open}
use Rattle.html_render_layout_blocks.proofs.Cells.{none_is}
use Rattle.html_render_layout_blocks.proofs.block.cells.OpenTable+Picture+T+M+T+M.begin_row.Goals as goal

pub returns-in_ok-next_row-in-Across-clause-ok : goal.returns-in_ok-next_row-in-Across-clause-ok
returns-in_ok-next_row-in-Across-clause-ok g c =
    let picture = c.in-Across.picture in
    let widths = c.in-Across.widths in
    let ahead = c.in-Across.ahead in
    let closed : c.in-Across.row ≡ None = none_is c.in-Across.row c.is_none.result c.is_none.ensures c.if-is_none.true in
    ap (λ w. Across c.next_row.new.picture w c.next_row.new.ahead (Some c.in_ok-next_row-in-Across.field-0)) c.next_row.ensures.widths
    ∙ ap (λ p. Across p widths c.next_row.new.ahead (Some c.in_ok-next_row-in-Across.field-0)) c.in_ok-next_row-in-Across.ensures.picture
    ∙ ap (λ a. Across picture widths a (Some c.in_ok-next_row-in-Across.field-0)) c.in_ok-next_row-in-Across.ensures.ahead
    ∙ ap (λ r. Across picture widths (drop 1 ahead) (Some r)) c.in_ok-next_row-in-Across.ensures.row
    ∙ ap (λ o. with_row_open (Across picture widths ahead o)) (sym closed)
    ∙ ap (λ t. with_row_open t) (sym c.in-Across.is)
