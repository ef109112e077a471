use Rattle.std.proofs.Common.{◌≡◌, ℕ, ◌+◌, nat_le, true, take, drop}
use Rattle.std.specs.List.{list_all}
use Rattle.html_render_layout_lines.specs.Line.{columns}
use Rattle.html_render_layout_lines.specs.TaggedText.{counted}
use Rattle.html_render_layout_buffer.specs.Pieces.{lines_of}
use Rattle.html_render_layout_buffer.proofs.finished.pieces.others_fit.Given as goal

abbrev pub invariant-loop-index : goal.invariant-loop-index
invariant-loop-index g l =
    (k : ℕ) → l.later ≡ counted k → list_all (λ y. nat_le (k + columns y) l.width) (lines_of (drop 1 (take l.index l.pieces.items))) ≡ true
