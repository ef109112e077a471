use Rattle.std.proofs.Common.{◌-◌, length}
use Rattle.html_render_layout_paragraphs.specs.Feeding.{IsStretch}
use Rattle.html_render_layout_paragraphs.proofs.paragraph.feeding.longer_stretch.Given as goal

abbrev pub invariant-loop-bytes : goal.invariant-loop-bytes
invariant-loop-bytes l = IsStretch l.mode l.text l.bytes l.columns

abbrev pub decreases-loop-bytes : goal.decreases-loop-bytes
decreases-loop-bytes l = length l.text - l.bytes
