use Rattle.std.proofs.Common.{◌≡◌, ◌++◌, Some, drop, take, map}
use Rattle.html_render_layout_buffer.specs.Padding.{filled}
use Rattle.html_render_layout_buffer.proofs.finished.pieces.fill_in_turn.Given as goal

abbrev pub invariant-loop : goal.invariant-loop
invariant-loop g l = l.pieces.items ≡ drop l.counter l.initial.pieces.items ++ map (filled (Some l.tag) l.width) (take l.counter l.initial.pieces.items)
