use Rattle.std.proofs.Common.{◌≡◌, ◌+◌, subst, arith}
use Rattle.std.proofs.lemmas.Grind.{common_steps}
use Rattle.html_render_layout_paragraphs.specs.Feeding.{IsStretch}
use Rattle.html_render_layout_paragraphs.proofs.Stretches.{longer-stretch}
use Rattle.html_render_layout_paragraphs.proofs.paragraph.feeding.longer_stretch.Goals as goal

pub loop-bytes-preserved : goal.loop-bytes-preserved
loop-bytes-preserved c =
    let next = rw c.range_from.ensures.value at c.next_stretch-next.ensures in
    let sum : c.loop-bytes.columns + c.next_stretch-next.result.columns ≡ c.in-Some.sum = grind (arith, common_steps) in
    subst (λ w. IsStretch c.args.mode c.args.text.now (c.loop-bytes.bytes + c.next_stretch-next.result.bytes) w) sum
    (longer-stretch c.args.mode c.args.text.now c.loop-bytes.bytes c.next_stretch-next.result.bytes c.loop-bytes.columns
    c.next_stretch-next.result.columns c.utf8.text c.loop-bytes.invariant next)
