use Rattle.std.proofs.Common.{◌≡◌, ◌+◌, [], ◌++◌, drop}
use Rattle.html_render_layout_buffer.specs.Levels.{lines_after}
use Rattle.html_render_layout_buffer.proofs.nested.prefixes.put_lines.Given as goal

abbrev pub invariant-loop-n : goal.invariant-loop-n
invariant-loop-n g l = record {
  lines : l.lines.lines ++ lines_after (l.number + l.n) l.prefixes (drop l.n l.more.lines)
      ≡ l.initial.lines.lines ++ lines_after l.number l.prefixes l.more.lines;
  line : l.lines.line ≡ [];
}
