use Rattle.std.proofs.Common.{◌≡◌}
use Rattle.std.specs.String.{string_bytes}
use Rattle.std.specs.Str.{encode_utf8_all}
use Rattle.html_render_layout.specs.Layout.{struck}
use Rattle.html_render_layout.proofs.walk.texts.struck.Given as goal

abbrev pub invariant-loop-c : goal.invariant-loop-c
invariant-loop-c l = string_bytes l.written ≡ encode_utf8_all (struck l.yielded)
