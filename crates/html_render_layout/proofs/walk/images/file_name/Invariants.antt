use Rattle.std.proofs.Common.{◌≡◌, ◌≤◌, false, length, drop}
use Rattle.html_render_layout.proofs.FileNames.{has_slash}
use Rattle.html_render_layout.proofs.walk.images.file_name.Given as goal

abbrev pub invariant-loop-start : goal.invariant-loop-start
invariant-loop-start l = record {
  past : l.start ≤ length l.address;
  none : has_slash (drop l.start l.address) ≡ false;
}

abbrev pub decreases-loop-start : goal.decreases-loop-start
decreases-loop-start l = l.start
