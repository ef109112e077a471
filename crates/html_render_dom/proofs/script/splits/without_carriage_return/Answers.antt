use Rattle.std.proofs.Common.{◌<◌, ◌-◌, length, arith, rules, sym}
use Rattle.std.proofs.lemmas.Bool.Decides.{nat_tests}
use Rattle.std.proofs.lemmas.Option.{get_or_from_slice_get, slice_get_within}
use Rattle.std.proofs.lemmas.Str.{IsCharBoundary-before_ascii}
use Rattle.html_render_dom.proofs.script.splits.without_carriage_return.Goals as goal

pub range-requires-clause-end_boundary : goal.range-requires-clause-end_boundary
range-requires-clause-end_boundary c =
    let line = c.args.line.now in
    let last = c.in-Some.last.now in
    let at = rw c.as_bytes.ensures.value at c.in-Some.ensures.value in
    let low : last < 128 = first_of (omega (arith, c.if-last-eq13.true), search rules, grind (arith, nat_tests)) in
    IsCharBoundary-before_ascii line (length line - 1) (slice_get_within line (length line - 1) last (sym at))
    (omega (arith, low, get_or_from_slice_get line (length line - 1) last 0 (sym at)))
