use Rattle.std.proofs.Common.{arith}
use Rattle.html_render_layout_paragraphs.proofs.SpacedWords.{no-front, more-front}
use Rattle.html_render_layout_paragraphs.proofs.paragraph.word.longest_front.Goals as goal

pub loop-bytes-init : goal.loop-bytes-init
loop-bytes-init c = (no-front c.args.text.now c.utf8.text, omega arith)

pub loop-bytes-preserved : goal.loop-bytes-preserved
loop-bytes-preserved c =
    let next = rw c.range_from.ensures.value at c.next_front-next.ensures.front in (
      more-front c.args.text.now c.loop-bytes.bytes c.next_front-next.result.bytes c.loop-bytes.columns c.next_front-next.result.columns
          c.utf8.text c.loop-bytes.invariant.0 next,
      omega arith,
    )
