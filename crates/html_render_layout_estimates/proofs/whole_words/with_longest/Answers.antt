use Rattle.std.proofs.Common.{arith}
use Rattle.html_render_layout_estimates.proofs.WordSpans.{one_word, no_word, word_added}
use Rattle.html_render_layout_estimates.proofs.whole_words.with_longest.Goals.{then-at-words, else-at-words}
use Rattle.html_render_layout_estimates.proofs.whole_words.with_longest.Goals as goal

pub loop-at-preserved : goal.loop-at-preserved
loop-at-preserved c =
    word_added c.loop-at.all.items _ c.args.needs.now c.args.words.now c.loop-at.at _ c.in_ok-push.ensures.items
    (elim c.if-at-words.branch [
      | then-at-words w ↦ one_word c.args.needs.now c.args.words.now c.loop-at.at c.if-at-words.longest_word _ (omega arith) (omega arith) w.longest_word-is
      | else-at-words w ↦ no_word c.args.needs.now c.args.words.now c.loop-at.at c.if-at-words.longest_word _ (omega arith) (omega arith) w.longest_word-is
    ])
    c.loop-at.invariant
