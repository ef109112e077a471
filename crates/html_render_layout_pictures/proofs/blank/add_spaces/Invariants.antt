use Rattle.std.proofs.Common.{◌≡◌, ◌++◌, replicate}
use Rattle.std.specs.Str.{chars}
use Rattle.std.specs.String.{string_bytes}
use Rattle.html_render_layout_pictures.proofs.blank.add_spaces.Given as goal

-- with those that are left the text has all of them
abbrev pub invariant-loop-left : goal.invariant-loop-left
invariant-loop-left l = chars (string_bytes l.text) ++ replicate l.left 0x20 ≡ chars (string_bytes l.fn.text) ++ replicate l.count 0x20

abbrev pub decreases-loop-left : goal.decreases-loop-left
decreases-loop-left l = l.left
