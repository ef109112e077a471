use Rattle.std.proofs.Common.{◌≡◌, length}
use Rattle.html_render_layout_tagged.specs.TaggedLine.{strings_of}
use Rattle.html_render_layout_tagged.proofs.line.TaggedStringsIterator.next.Given as goal

-- fragment starts are skipped
abbrev pub invariant-loop-first : goal.invariant-loop-first
invariant-loop-first g l = strings_of l.self-inside.rest.now ≡ strings_of l.initial.self-inside.rest.now

abbrev pub decreases-loop-first : goal.decreases-loop-first
decreases-loop-first g l = length l.self-inside.rest.now
