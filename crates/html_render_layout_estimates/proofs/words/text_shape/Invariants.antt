use Rattle.std.proofs.Common.{◌≡◌, length}
use denote.Text.{Utf8}
use denote.Shadow.{shadow}
use Rattle.std.specs.Str.{chars}
use Rattle.html_render_layout_estimates.specs.Words.{text_shape}
use Rattle.html_render_layout_estimates.specs.WordSteps.{shape_after}
use Rattle.html_render_layout_estimates.proofs.words.text_shape.Given as goal

abbrev pub invariant-loop-c : goal.invariant-loop-c
invariant-loop-c l = shadow (Utf8 l.rest) × (shape_after l.shape (chars l.rest) ≡ text_shape (chars l.text))

abbrev pub decreases-loop-c : goal.decreases-loop-c
decreases-loop-c l = length l.rest
