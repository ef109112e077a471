use Rattle.std.proofs.Common.{◌≡◌, ◌+◌, ◌++◌, map, drop}
use Rattle.std.specs.Prelude.{string_bytes}
use Rattle.html_render_layout.specs.Ending.{footnotes}
use Rattle.html_render_layout.proofs.walk.ending.footnotes.Given as goal

-- all footnotes are those so far, and then those of the remaining links
abbrev pub invariant-loop-index : goal.invariant-loop-index
invariant-loop-index l = footnotes 1 l.targets ≡ map (λ t. string_bytes t) l.texts.items ++ footnotes (l.index + 1) (drop l.index l.targets)
