use Rattle.std.proofs.Common.{◌≡◌, ◌∙◌, subst, sym}
use Rattle.html_render_parts.specs.Placement.{own_from}
use Rattle.html_render_parts.specs.SimpleRows.{own_or_simple}
use Rattle.html_render_parts.proofs.RowAfterRow.{next-is}
use Rattle.html_render_parts.proofs.SimpleRows.{nothing-hangs, stored-placed}
use Rattle.html_render_parts.proofs.table.cells.place_next_own.Goals as goal

pub returns-then-spans_end-clause-hanging : goal.returns-then-spans_end-clause-hanging
returns-then-spans_end-clause-hanging c =
    let empty = c.hangs_nothing.ensures.0 c.if-hangs_nothing.true in
    empty ∙ sym (nothing-hangs c.args.row c.args.placer.now.hanging c.args.cells.now empty (c.spans_end.ensures.0 c.if-spans_end.true))

pub returns-clause-own : goal.returns-clause-own
returns-clause-own c =
    let row = c.args.row in
    let cells = c.args.cells.now in
    let done = c.args.placer.now in
    let is = next-is row cells done c.place_row.new.self c.in_ok-place_row.ensures.placed.ok in
    subst (λ o. own_or_simple row cells o ≡ own_from row 0 done.hanging cells) (sym is.own) (stored-placed row done.hanging cells)
