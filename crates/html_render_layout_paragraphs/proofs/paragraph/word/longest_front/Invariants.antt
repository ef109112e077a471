use Rattle.std.proofs.Common.{◌≤◌, ◌-◌, length}
use Rattle.html_render_layout_paragraphs.specs.Feeding.{IsFront}
use Rattle.html_render_layout_paragraphs.proofs.paragraph.word.longest_front.Given as goal

abbrev pub invariant-loop-bytes : goal.invariant-loop-bytes
invariant-loop-bytes l = IsFront l.text l.bytes l.columns × (l.columns ≤ l.room)

abbrev pub decreases-loop-bytes : goal.decreases-loop-bytes
decreases-loop-bytes l = length l.text - l.bytes
