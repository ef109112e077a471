use Rattle.html_render_parts_widths.proofs.CutColumns.{ColumnsSoFar}
use Rattle.html_render_parts_widths.proofs.lowering.columns_at_level.Given as goal

abbrev pub invariant-loop-place : goal.invariant-loop-place
invariant-loop-place l = ColumnsSoFar l.minimums l.shares l.level l.place l.columns.items
