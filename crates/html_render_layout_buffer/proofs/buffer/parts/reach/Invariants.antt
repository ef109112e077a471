use Rattle.std.proofs.Common.{◌≡◌, ◌+◌, ◌-◌, ◌≤◌, length, take, drop}
use Rattle.std.specs.Str.{chars, IsUtf8}
use Rattle.html_render_layout_buffer.specs.Parts.{reach}
use Rattle.html_render_layout_buffer.proofs.buffer.parts.reach.Given as goal

abbrev pub invariant-loop-count : goal.invariant-loop-count
invariant-loop-count l = record {
  rest : l.rest ≡ drop l.count l.text;
  within : l.count ≤ length l.text;
  front : IsUtf8 (take l.count l.text);
  utf8 : IsUtf8 l.rest;
  left : l.count + reach (l.limit - l.count) (chars l.rest) ≡ reach l.limit (chars l.text);
}

abbrev pub decreases-loop-count : goal.decreases-loop-count
decreases-loop-count l = length l.rest
