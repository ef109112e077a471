use Rattle.std.proofs.Common.{◌≡◌, ◌++◌}
use Rattle.html_render_layout_buffer.specs.Padding.{repeated}
use Rattle.html_render_layout_pictures.specs.Fillers.{character_of}
use Rattle.html_render_layout_pictures.proofs.gaps.push_some_fillers.Given as goal

-- with those that are left the line has all of them
abbrev pub invariant-loop-left : goal.invariant-loop-left
invariant-loop-left g l = record {
  lines : l.to.lines ≡ l.fn.to.lines;
  line : l.to.line ++ repeated l.tag (character_of l.filler) l.left ≡ l.fn.to.line ++ repeated l.tag (character_of l.filler) l.count;
}

abbrev pub decreases-loop-left : goal.decreases-loop-left
decreases-loop-left g l = l.left
