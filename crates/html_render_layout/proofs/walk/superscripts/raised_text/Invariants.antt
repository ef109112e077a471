use Rattle.std.proofs.Common.{◌≡◌, map, take}
use Rattle.std.specs.String.{string_bytes}
use Rattle.std.specs.Str.{encode_utf8_all}
use Rattle.html_render_layout.specs.Layout.{raised}
use Rattle.html_render_layout.proofs.walk.superscripts.raised_text.Given as goal

abbrev pub invariant-loop-digit : goal.invariant-loop-digit
invariant-loop-digit l = string_bytes l.text ≡ encode_utf8_all (map raised (take l.digit-index l.digits))
