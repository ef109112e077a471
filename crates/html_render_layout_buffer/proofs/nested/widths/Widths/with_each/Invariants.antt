use Rattle.std.proofs.Common.{◌≡◌, drop}
use Rattle.html_render_layout_buffer.specs.Widths.{with_each}
use Rattle.html_render_layout_buffer.proofs.nested.widths.Widths.with_each.Given as goal

abbrev pub invariant-loop-n : goal.invariant-loop-n
invariant-loop-n g l = with_each l.all (drop l.n l.lines.lines) ≡ with_each l.fn.self l.lines.lines
