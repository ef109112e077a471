use Rattle.std.proofs.Common.{◌≡◌, ◌++◌, take}
use Rattle.html_render_parts.specs.Placement.{lists}
use Rattle.html_render_parts.specs.Spans.{spanned_in}
use Rattle.html_render_parts.proofs.table.spans.push_rows.Given as goal

-- the rows so far
abbrev pub invariant-loop-row : goal.invariant-loop-row
invariant-loop-row l = lists l.rows.items ≡ lists l.fn.rows.items ++ spanned_in l.widest (lists (take l.row-index l.part))
