use Rattle.html_render_parts_widths.proofs.CutColumns.{IsLowering}
use Rattle.html_render_parts_widths.proofs.lowering.lowered.Given as goal

abbrev pub invariant-loop-column : goal.invariant-loop-column
invariant-loop-column l = IsLowering l.minimums l.shares l.level l.count l.column-items l.column-index l.initial.widths.items l.widths.items
