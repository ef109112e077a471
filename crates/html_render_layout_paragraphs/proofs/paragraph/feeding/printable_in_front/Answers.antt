use Rattle.std.proofs.Common.{arith}
use Rattle.html_render_layout_paragraphs.proofs.Stretches.{more-ascii}
use Rattle.html_render_layout_paragraphs.proofs.paragraph.feeding.printable_in_front.Goals as goal

pub returns-then-more-lt-LANES-clause-printable : goal.returns-then-more-lt-LANES-clause-printable
returns-then-more-lt-LANES-clause-printable c =
    more-ascii 32 c.args.text.now c.loop-count.count c.ascii_in_block-more.result c.loop-count.invariant.1
    c.ascii_in_block-more.ensures.ascii

pub loop-count-preserved : goal.loop-count-preserved
loop-count-preserved c = (
  omega arith,
  more-ascii 32 c.args.text.now c.loop-count.count c.ascii_in_block-more.result c.loop-count.invariant.1
      c.ascii_in_block-more.ensures.ascii,
)
