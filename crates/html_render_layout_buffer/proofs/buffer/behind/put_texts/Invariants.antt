use Rattle.std.proofs.Common.{◌≡◌, ◌++◌, take, drop}
use Rattle.std.specs.String.{string_bytes}
use Rattle.html_render_layout_buffer.specs.Lines.{lines_bytes}
use Rattle.html_render_layout_buffer.proofs.BehindLines.{behind}
use Rattle.html_render_layout_buffer.proofs.buffer.behind.put_texts.Given as goal

abbrev pub invariant-loop-n : goal.invariant-loop-n
invariant-loop-n g l =
    string_bytes l.text ≡ string_bytes l.initial.text ++ lines_bytes (behind l.prefix.tag l.prefix.text.now (drop l.from (take l.n l.lines.lines)))
