use Rattle.std.proofs.Common.{◌≡◌, ◌++◌, drop}
use Rattle.html_render_layout_estimates.specs.Words.{with_longest}
use Rattle.html_render_layout_estimates.proofs.whole_words.with_longest.Given as goal

-- the needs of the first columns, and those of the others, are all needs
abbrev pub invariant-loop-at : goal.invariant-loop-at
invariant-loop-at l = l.all.items ++ with_longest (drop l.at l.needs) (drop l.at l.words) ≡ with_longest l.needs l.words
