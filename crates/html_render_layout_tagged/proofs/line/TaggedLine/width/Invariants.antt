use Rattle.std.proofs.Common.{◌≡◌, ◌-◌, ◌^◌, min, take}
use Rattle.html_render_layout_tagged.specs.TaggedLine.{line_columns}
use Rattle.html_render_layout_tagged.proofs.line.TaggedLine.width.Given as goal

abbrev pub invariant-loop-element : goal.invariant-loop-element
invariant-loop-element g l = l.width ≡ min (line_columns (take l.element-index l.element-items)) (2 ^ 64 - 1)
