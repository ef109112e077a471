use Rattle.std.proofs.Common.{◌≡◌, ◌++◌, take}
use Rattle.html_render_layout_buffer.proofs.finished.FinishedLines.push_copies.Given as goal

abbrev pub invariant-loop-n : goal.invariant-loop-n
invariant-loop-n g l = l.self ≡ l.initial.self ++ take l.n l.lines.lines
