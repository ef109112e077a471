use Rattle.std.proofs.Common.{◌≡◌, ◌+◌, ◌<◌, ◌^◌, drop, max}
use Rattle.html_render_parts.specs.Placement.{lists}
use Rattle.html_render_parts.specs.Spans.{greatest_width}
use Rattle.html_render_parts.proofs.table.spans.greatest_width.Given as goal

-- the greatest so far, with those of the rows that are left
abbrev pub invariant-loop-row : goal.invariant-loop-row
invariant-loop-row l = (max l.widest (greatest_width (lists (drop l.row-index l.rows))) ≡ greatest_width (lists l.rows)) × (l.widest + 1 < 2 ^ 128)
