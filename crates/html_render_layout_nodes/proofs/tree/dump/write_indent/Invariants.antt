use Rattle.std.proofs.Common.{replicate}
use Rattle.std.specs.Fmt.{HasWritten, IsPlainFormatter}
use Rattle.html_render_layout_nodes.proofs.tree.dump.write_indent.Given as goal

abbrev pub invariant-loop : goal.invariant-loop
invariant-loop g l = IsPlainFormatter l.initial.f → HasWritten g.W.Write.write_str_gives l.initial.f (replicate l.counter 32) l.f
