use Rattle.std.proofs.Common.{take, drop}
use Rattle.html_render_layout_buffer.proofs.BehindLines.{behind, AreEnds}
use Rattle.html_render_layout_buffer.proofs.buffer.behind.put_ends.Given as goal

abbrev pub invariant-loop-n : goal.invariant-loop-n
invariant-loop-n g l =
    AreEnds l.initial.ends.items l.ends.items l.at l.slot_at l.end l.slot_end
    (behind l.prefix.tag l.prefix.text.now (drop l.from (take l.n l.lines.lines)))
