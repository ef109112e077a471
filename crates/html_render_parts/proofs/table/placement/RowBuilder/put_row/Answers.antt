use Rattle.std.proofs.Common.{sym, arith}
use Rattle.std.proofs.lemmas.List.{drop_more}
use Rattle.std.proofs.lemmas.Result.{err_from_is_err_and}
use Rattle.html_render_parts.specs.laws.Refusal.{Fails-same, Fails-then}
use Rattle.html_render_parts.proofs.table.placement.RowBuilder.put_row.Goals as goal

pub returns-in_err-rest : goal.returns-in_err-rest
returns-in_err-rest c =
    let e = drop_more c.args.cells.now c.loop-span.span-index (record { colspan = 0; rowspan = 0 }) (omega arith) in
    let p = err_from_is_err_and c.from_residual.result c.from_residual.ensures.1 in
    rw (p.1, p.2) (record { ok = tt; err = Fails-same _ _ _ (sym c.loop-span.invariant) (rw e (Fails-then _ _ _ c.in_err-rest.ensures.placed.err)) })
