use Rattle.std.proofs.Common.{◌≡◌, ◌++◌, replicate}
use Rattle.html_render_layout_pictures.proofs.plain.LineText.push_some_spaces.Given as goal

-- with those that are left the text has all of them
abbrev pub invariant-loop-left : goal.invariant-loop-left
invariant-loop-left l = l.self ++ replicate l.left 0x20 ≡ l.fn.self ++ replicate l.count 0x20

abbrev pub decreases-loop-left : goal.decreases-loop-left
decreases-loop-left l = l.left
