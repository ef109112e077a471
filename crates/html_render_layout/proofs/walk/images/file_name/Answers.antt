use Rattle.std.proofs.Common.{◌≡◌, ◌+◌, ◌-◌, get_or, drop, sym, ap, ◌∙◌, subst, arith}
use Rattle.std.proofs.lemmas.Str.{IsCharBoundary-after_ascii}
use Rattle.std.specs.Str.{IsCharBoundary}
use Rattle.html_render_layout.proofs.FileNames.{ends_address}
use Rattle.html_render_layout.proofs.walk.images.file_name.Goals as goal

pub range_from-requires : goal.range_from-requires
range_from-requires c = λ _.
    let slash : get_or c.args.address.now (c.loop-start.start - 1) 0 ≡ 47 =
    ap (λ bs. get_or bs (c.loop-start.start - 1) 0) (sym c.as_bytes-bytes.ensures.value) ∙ c.if-bytes-start-eq47.true in
    let same : c.loop-start.start - 1 + 1 ≡ c.loop-start.start = omega (arith, c.loop-start-test.true) in
    subst (λ n. IsCharBoundary c.args.address.now n) same
    (IsCharBoundary-after_ascii c.args.address.now (c.loop-start.start - 1) c.utf8.address
    (omega (arith, c.loop-start-test.true, c.loop-start.invariant.past)) (omega (arith, slash)))

pub returns-then-bytes-start-eq47 : goal.returns-then-bytes-start-eq47
returns-then-bytes-start-eq47 c =
    c.range_from.ensures.value
    ∙ sym (ends_address c.args.address.now c.loop-start.start c.loop-start.invariant.past
    (λ some. ap (λ bs. get_or bs (c.loop-start.start - 1) 0) (sym c.as_bytes-bytes.ensures.value) ∙ c.if-bytes-start-eq47.true)
    c.loop-start.invariant.none)

pub returns : goal.returns
returns c =
    let start : c.loop-start.start ≡ 0 = omega (arith, c.loop-start-test.false) in
    sym (ends_address c.args.address.now c.loop-start.start c.loop-start.invariant.past (λ some. absurd (omega (arith, some, start)))
    c.loop-start.invariant.none ∙ ap (λ n. drop n c.args.address.now) start)
