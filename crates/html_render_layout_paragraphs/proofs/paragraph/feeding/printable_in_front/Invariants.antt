use Rattle.std.proofs.Common.{◌≡◌, ◌≤◌, ◌-◌, true, length, take}
use Rattle.std.specs.List.{list_all}
use Rattle.html_render_layout_paragraphs.specs.Feeding.{is_ascii_from}
use Rattle.html_render_layout_paragraphs.proofs.paragraph.feeding.printable_in_front.Given as goal

abbrev pub invariant-loop-count : goal.invariant-loop-count
invariant-loop-count l = (l.count ≤ length l.text) × (list_all (is_ascii_from 32) (take l.count l.text) ≡ true)

abbrev pub decreases-loop-count : goal.decreases-loop-count
decreases-loop-count l = length l.text - l.count
