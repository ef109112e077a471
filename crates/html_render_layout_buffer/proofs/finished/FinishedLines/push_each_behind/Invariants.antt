use Rattle.std.proofs.Common.{◌≡◌, ◌++◌, length}
use Rattle.std.specs.Str.{chars}
use Rattle.html_render_layout_lines.specs.TaggedText.{under}
use Rattle.html_render_layout_buffer.specs.Pieces.{lines_of}
use Rattle.html_render_layout_buffer.specs.Prefixed.{prefixed}
use Rattle.html_render_layout_buffer.proofs.finished.FinishedLines.push_each_behind.Given as goal

-- the lines so far, and those that are left behind the prefix
abbrev pub invariant-loop-piece : goal.invariant-loop-piece
invariant-loop-piece g l =
    l.self ++ prefixed (under l.prefix.tag (chars l.prefix.text.now)) (under l.prefix.tag (chars l.prefix.text.now)) (lines_of l.pieces)
    ≡ l.initial.self ++ prefixed (under l.prefix.tag (chars l.prefix.text.now)) (under l.prefix.tag (chars l.prefix.text.now)) (lines_of l.fn.pieces)

abbrev pub decreases-loop-piece : goal.decreases-loop-piece
decreases-loop-piece g l = length l.pieces
