use Rattle.std.proofs.Common.{◌≡◌, ◌++◌, drop, take, map}
use Rattle.std.specs.Str.{chars}
use Rattle.html_render_layout_lines.specs.TaggedText.{under}
use Rattle.html_render_layout_buffer.proofs.finished.pieces.Pieces.put_behind.Given as goal

abbrev pub invariant-loop : goal.invariant-loop
invariant-loop g l = l.self ≡ drop l.counter l.initial.self ++ map (map (λ k. under l.prefix.tag (chars l.prefix.text.now) ++ k)) (take l.counter l.initial.self)
