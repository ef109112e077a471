use Rattle.std.proofs.Common.{◌≡◌, ◌-◌, ◌/◌, sym, ◌∙◌, subst, arith, length}
use Rattle.html_render_parts_widths.specs.SpanSteps.{IsSpread}
use Rattle.html_render_parts_widths.proofs.Spreading.{split_spread, ended}
use Rattle.html_render_parts_widths.proofs.spans.put_greatest.Goals as goal

pub add_all-requires-clause-spread : goal.add_all-requires-clause-spread
add_all-requires-clause-spread c =
    let longer = c.loop-longer.longer in
    let offset = longer / 2 in
    let more = c.split.new.values.items in
    let spread = c.loop-longer.invariant.0 in
    let places : length more ≡ c.args.columns = c.split.ensures.len ∙ spread.places in
    subst (λ n. IsSpread n (longer - offset) longer 0 c.args.spans.now more) (sym places)
    (split_spread c.args.columns longer offset c.args.spans.now c.loop-longer.values.items more c.requires
    (omega (arith, c.loop-longer-test.true)) (omega (arith, c.loop-longer-test.true)) (omega (arith, c.loop-longer-test.true)) places
    c.split.ensures.each spread)

pub returns : goal.returns
returns c =
    let spread = c.loop-longer.invariant in
    let one : c.loop-longer.longer ≡ 1 = omega (arith, c.loop-longer-test.false, spread.1) in
    ended c.args.columns c.args.spans.now c.loop-longer.values.items
    (subst (λ n. IsSpread c.args.columns n n 0 c.args.spans.now c.loop-longer.values.items) one spread.0)
