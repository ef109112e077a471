use Rattle.std.proofs.Common.{sym, ap}
use Rattle.std.proofs.lemmas.Result.{err_from_is_err_and}
use Rattle.html_render_parts.proofs.PlacingRows.{kept-ordered, next-made, next-refused}
use Rattle.html_render_parts.proofs.table.placement.RowPlacer.place_row.Goals as goal

pub returns-in_err-put_row-clause-placed : goal.returns-in_err-put_row-clause-placed
returns-in_err-put_row-clause-placed c =
    let same = sym (ap (λ p. p.hanging) c.self.view_is) in
    let fails = rw (c.deref.ensures.value, c.clear.ensures) at c.in_err-put_row.ensures.err in
    let p = err_from_is_err_and c.from_residual.result c.from_residual.ensures.1 in
    rw (p.1, p.2) (record {
      ok = tt;
      err = next-refused _ c.args.row c.args.cells.now c.args.self.now c.self.inside.hanging.items same fails;
    })

pub invariant_of-self-2 : goal.invariant_of-self-2
invariant_of-self-2 c =
    let built = rw (c.deref.ensures.value, c.clear.ensures) at c.in_ok-put_row.ensures.ok in
    rw c.swap_kept.ensures.cells
    (kept-ordered c.args.row c.args.cells.now c.self.inside.hanging.items c.put_row.new.self c.self.invariant built)

pub returns-clause-placed : goal.returns-clause-placed
returns-clause-placed c =
    let same = sym (ap (λ p. p.hanging) c.self.view_is) in
    let built = rw (c.deref.ensures.value, c.clear.ensures) at c.in_ok-put_row.ensures.ok in
    rw (c.swap_kept.ensures.cells, c.swap_kept.ensures.kept) (record {
      ok = next-made c.args.row c.args.cells.now c.args.self.now c.self.inside.hanging.items c.put_row.new.self same c.self.invariant built;
      err = tt;
    })
