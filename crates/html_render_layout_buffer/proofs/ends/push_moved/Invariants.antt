use Rattle.std.proofs.Common.{◌≡◌, ◌++◌, map, take}
use Rattle.html_render_layout_buffer.specs.Moved.{moved}
use Rattle.html_render_layout_buffer.proofs.ends.push_moved.Given as goal

abbrev pub invariant-loop-end : goal.invariant-loop-end
invariant-loop-end l = l.ends.items ≡ l.initial.ends.items ++ map (moved l.text l.slots) (take l.end-index l.more)
