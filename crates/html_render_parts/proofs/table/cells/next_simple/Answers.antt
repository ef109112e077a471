use Rattle.std.proofs.Common.{sym}
use Rattle.html_render_parts.proofs.RowsOfCells.{own-on_edges}
use Rattle.html_render_parts.proofs.SimpleRows.{simple-ahead}
use Rattle.html_render_parts.proofs.table.cells.next_simple.Goals as goal

pub put_places-requires : goal.put_places-requires
put_places-requires c =
    let inside = rw (c.len.ensures, c.rows-rows.ensures.rows) at c.if-row-len.false in
    let at = rw c.rows-rows.ensures.rows at c.row-own.ensures in
    rw c.edges.ensures.edges (own-on_edges c.args.cells.now c.args.row.now c.row-own.result.now inside (sym at) c.rows-rows.ensures.on_columns)

pub returns-then-cells_end-clause-placed : goal.returns-then-cells_end-clause-placed
returns-then-cells_end-clause-placed c =
    let inside = rw (c.len.ensures, c.rows-rows.ensures.rows) at c.if-row-len.false in
    let at = rw c.rows-rows.ensures.rows at c.row-own.ensures in
    let end = c.cells_end.ensures.0 c.if-cells_end.true in
    rw (c.in_ok-put_places.ensures, c.edges.ensures.edges)
    (simple-ahead c.args.cells.now c.args.row.now c.args.placer.now.hanging c.row-own.result.now
    (c.hangs_nothing.ensures.0 c.if-hangs_nothing.true) c.requires inside (sym at) end).places

pub returns-then-cells_end-clause-ahead : goal.returns-then-cells_end-clause-ahead
returns-then-cells_end-clause-ahead c =
    let inside = rw (c.len.ensures, c.rows-rows.ensures.rows) at c.if-row-len.false in
    let at = rw c.rows-rows.ensures.rows at c.row-own.ensures in
    let end = c.cells_end.ensures.0 c.if-cells_end.true in
    (simple-ahead c.args.cells.now c.args.row.now c.args.placer.now.hanging c.row-own.result.now
    (c.hangs_nothing.ensures.0 c.if-hangs_nothing.true) c.requires inside (sym at) end).ahead
