use Rattle.std.proofs.Common.{sym}
use Rattle.std.proofs.lemmas.Result.{err_from_is_err_and}
use Rattle.html_render_parts.proofs.RowsOfCells.{bottom-still, own-memory, own-next, own-on_edges}
use Rattle.html_render_parts.proofs.table.cells.place_next.Goals as goal

pub put_spans-requires-clause-on_edges : goal.put_spans-requires-clause-on_edges
put_spans-requires-clause-on_edges c =
    let inside = rw (c.len.ensures, c.rows-rows.ensures.rows) at c.if-row-len.false in
    let at = rw c.rows-rows.ensures.rows at c.row-own.ensures in
    rw c.edges.ensures.edges (own-on_edges c.args.cells.now c.args.row.now c.row-own.result.now inside (sym at) c.rows-rows.ensures.on_columns)

pub returns-in_err-place_row-clause-err : goal.returns-in_err-place_row-clause-err
returns-in_err-place_row-clause-err c =
    let inside = rw (c.len.ensures, c.rows-rows.ensures.rows) at c.if-row-len.false in
    let at = rw c.rows-rows.ensures.rows at c.row-own.ensures in
    let fails = rw (c.deref.ensures.value, c.in_ok-put_spans.ensures, c.edges.ensures.edges) at c.in_err-place_row.ensures.placed.err in
    let p = err_from_is_err_and c.from_residual-in_err-place_row.result c.from_residual-in_err-place_row.ensures.1 in
    rw (p.1, p.2) (own-memory c.args.cells.now c.args.row.now c.row-own.result.now c.args.placer.now _ inside (sym at) c.requires fails)

pub returns-clause-ok : goal.returns-clause-ok
returns-clause-ok c =
    let inside = rw (c.len.ensures, c.rows-rows.ensures.rows) at c.if-row-len.false in
    let at = rw c.rows-rows.ensures.rows at c.row-own.ensures in
    let made = rw (c.deref.ensures.value, c.in_ok-put_spans.ensures, c.edges.ensures.edges) at c.in_ok-place_row.ensures.placed.ok in
    (own-next c.args.cells.now c.args.row.now c.row-own.result.now c.args.placer.now c.place_row.new.self inside (sym at) c.requires made).places

pub returns-clause-ahead : goal.returns-clause-ahead
returns-clause-ahead c =
    let inside = rw (c.len.ensures, c.rows-rows.ensures.rows) at c.if-row-len.false in
    let at = rw c.rows-rows.ensures.rows at c.row-own.ensures in
    let made = rw (c.deref.ensures.value, c.in_ok-put_spans.ensures, c.edges.ensures.edges) at c.in_ok-place_row.ensures.placed.ok in
    (own-next c.args.cells.now c.args.row.now c.row-own.result.now c.args.placer.now c.place_row.new.self inside (sym at) c.requires made).ahead

pub returns-then-row-len-clause-ahead : goal.returns-then-row-len-clause-ahead
returns-then-row-len-clause-ahead c =
    let past = rw (c.len.ensures, c.rows-rows.ensures.rows) at c.if-row-len.true in
    bottom-still c.args.cells.now c.args.row.now c.args.placer.now c.place_bottom_row.new.self c.place_bottom_row.result past c.requires
    c.place_bottom_row.ensures.ok c.place_bottom_row.ensures.hanging
