use Rattle.std.proofs.Common.{◌≡◌, ◌++◌, reverse}
use Rattle.html_render_layout_lines.specs.TaggedText.{under}
use Rattle.html_render_layout_buffer.proofs.finished.piece.push_reversed.Given as goal
use Rattle.std.proofs.Math.Utf8.{encodes}

abbrev pub invariant-loop-c : goal.invariant-loop-c
invariant-loop-c g l = record {
  pushed : l.elements.items ≡ l.fn.elements.items ++ under l.tag l.yielded;
  text : l.c-iterator.iter.rest.now ++ encodes (reverse l.yielded) ≡ l.text;
}
