use Rattle.std.proofs.Common.{◌≡◌, arith, rules, sym}
use Rattle.std.proofs.lemmas.Bool.Decides.{nat_tests}
use Rattle.std.proofs.lemmas.Option.{get_or_from_slice_get, slice_get_within}
use Rattle.std.proofs.lemmas.Str.{IsCharBoundary-after_ascii}
use Rattle.html_render_dom.proofs.script.splits.after_byte.Goals as goal

pub range_from-requires : goal.range_from-requires
range_from-requires c = λ _.
    let text = c.args.text.now in
    let first = c.in-Some.first.now in
    let at = rw c.as_bytes.ensures.value at c.in-Some.ensures.value in
    let is : first ≡ c.args.byte = first_of (omega (arith, c.if-first-byte.true), search rules, grind (arith, nat_tests)) in
    IsCharBoundary-after_ascii text 0 c.utf8.text (slice_get_within text 0 first (sym at))
    (omega (arith, c.requires, is, get_or_from_slice_get text 0 first 0 (sym at)))
