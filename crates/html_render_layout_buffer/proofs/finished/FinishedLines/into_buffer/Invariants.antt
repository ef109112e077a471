use Rattle.std.proofs.Common.{◌≡◌, [], ◌++◌, length}
use Rattle.html_render_layout_buffer.specs.Pieces.{lines_of}
use Rattle.html_render_layout_buffer.proofs.finished.FinishedLines.into_buffer.Given as goal

-- the buffer's lines, and those that are left
abbrev pub invariant-loop-piece : goal.invariant-loop-piece
invariant-loop-piece g l = record {
  lines : l.lines.lines ++ lines_of l.pieces ≡ l.initial.lines.lines ++ lines_of l.initial.pieces;
  line : l.lines.line ≡ [];
}

abbrev pub decreases-loop-piece : goal.decreases-loop-piece
decreases-loop-piece g l = length l.pieces
