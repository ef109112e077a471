use Rattle.std.proofs.Common.{nat_lt, refl, sym, ap}
use Rattle.std.proofs.lemmas.Result.{err_from_is_err_and}
use Rattle.html_render_parts.specs.Placement.{bottom_rows, end_of}
use Rattle.html_render_parts.specs.PlacementSteps.{fitting_positions}
use Rattle.html_render_parts.specs.laws.Refusal.{Fails-same}
use Rattle.html_render_parts.proofs.HangingOrder.{IsByColumn-filter}
use Rattle.html_render_parts.proofs.RisingEnds.{bottoms-refused, next-bottom}
use Rattle.html_render_parts.proofs.table.placement.RowPlacer.place_bottom_row.Goals as goal

pub returns-in_err-put_rest-clause-err : goal.returns-in_err-put_rest-clause-err
returns-in_err-put_rest-clause-err c =
    let same = sym (ap (λ p. p.hanging) c.self.view_is) in
    let first = rw c.deref.ensures.value at c.in-Some.ensures in
    let fails = rw (c.deref-2.ensures.value, c.clear.ensures) at c.in_err-put_rest.ensures.err in
    let p = err_from_is_err_and c.from_residual.result c.from_residual.ensures.1 in
    rw (p.1, p.2) (Fails-same _ _ _ (ap (λ hs. fitting_positions (bottom_rows hs)) same)
    (bottoms-refused _ c.self.inside.hanging.items c.in-Some.first first.0 first.1 fails))

pub invariant_of-self-2 : goal.invariant_of-self-2
invariant_of-self-2 c =
    rw c.keep_later.ensures (IsByColumn-filter (λ x. nat_lt (end_of c.in-Some.first) (end_of x)) c.self.inside.hanging.items c.self.invariant)

pub returns-clause-ok : goal.returns-clause-ok
returns-clause-ok c =
    let same = sym (ap (λ p. p.hanging) c.self.view_is) in
    let first = rw c.deref.ensures.value at c.in-Some.ensures in
    let built = rw (c.deref-2.ensures.value, c.clear.ensures) at c.in_ok-put_rest.ensures.ok in
    next-bottom c.args.self.now _ c.self.inside.hanging.items c.in-Some.first c.put_rest.new.self same first.0 first.1 built refl refl
    c.keep_later.ensures
