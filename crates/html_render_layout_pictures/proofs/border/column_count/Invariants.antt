use Rattle.std.proofs.Common.{◌≡◌, length, take}
use Rattle.html_render_layout_pictures.specs.Separators.{separators_from}
use Rattle.html_render_layout_pictures.proofs.border.column_count.Given as goal

abbrev pub invariant-loop-width : goal.invariant-loop-width
invariant-loop-width l = l.count ≡ length (separators_from l.initial.count (take l.width-index l.others))
