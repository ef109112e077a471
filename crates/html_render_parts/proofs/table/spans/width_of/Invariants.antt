use Rattle.std.proofs.Common.{◌≡◌, ◌≤◌, ◌*◌, take}
use Rattle.html_render_parts.specs.Spans.{width_of}
use Rattle.html_render_parts.proofs.table.spans.width_of.Given as goal

-- the cells so far, each of which asks for fewer than 2 ^ 64 columns
abbrev pub invariant-loop-cell : goal.invariant-loop-cell
invariant-loop-cell l = (l.width ≡ width_of (take l.cell-index l.cells)) × (l.width ≤ 18446744073709551615 * l.cell-index)
