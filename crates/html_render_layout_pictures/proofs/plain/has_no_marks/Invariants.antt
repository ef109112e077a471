use Rattle.std.proofs.Common.{◌≡◌, [], take}
use Rattle.std.specs.Prelude.{All}
use Rattle.html_render_layout_pictures.proofs.plain.has_no_marks.Given as goal

abbrev pub invariant-loop-cell : goal.invariant-loop-cell
invariant-loop-cell g l = All (λ c. c.marks.items ≡ []) (take l.cell-index l.cells)
