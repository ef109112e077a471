use Rattle.std.proofs.Common.{◌≡◌, ◌++◌, drop}
use Rattle.html_render_layout_buffer.specs.Levels.{line_prefixes}
use Rattle.html_render_layout_buffer.proofs.nested.prefixes.put_prefixes.Given as goal

abbrev pub invariant-loop-prefix : goal.invariant-loop-prefix
invariant-loop-prefix g l = record {
  lines : l.lines.lines ≡ l.initial.lines.lines;
  line : l.lines.line ++ line_prefixes l.number (drop l.prefix-index l.prefixes) ≡ l.initial.lines.line ++ line_prefixes l.number l.prefixes;
}
