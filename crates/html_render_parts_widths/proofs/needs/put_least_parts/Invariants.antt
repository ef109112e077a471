use Rattle.std.proofs.Common.{◌≡◌, map, take}
use Rattle.html_render_parts_widths.specs.Needs.{part}
use Rattle.html_render_parts_widths.proofs.needs.put_least_parts.Given as goal

abbrev pub invariant-loop-cell : goal.invariant-loop-cell
invariant-loop-cell l = l.parts.items ≡ map (λ c. part c c.min_width) (take l.cell-index l.cells)
