use Rattle.std.proofs.Common.{◌≡◌, length}
use Rattle.html_render_layout_estimates.proofs.whole_words.unknown_shapes.Given as goal

abbrev pub invariant-loop : goal.invariant-loop
invariant-loop l = length l.shapes.items ≡ l.counter
