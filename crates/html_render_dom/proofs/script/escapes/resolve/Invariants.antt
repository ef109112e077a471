use Rattle.std.proofs.Common.{◌≡◌, length, string_bytes}
use denote.Shadow.{shadow}
use denote.Text.{Utf8}
use Rattle.html_render_dom.specs.script.Commands.{unescaped}
use Rattle.html_render_dom.specs.script.Plain.{text_followed_by}
use Rattle.html_render_dom.proofs.script.escapes.resolve.Given as goal

-- the resolved text is the part that is appended, and then that of the rest
abbrev pub invariant-loop-before : goal.invariant-loop-before
invariant-loop-before l =
    shadow (Utf8 l.rest) × (unescaped l.text ≡ text_followed_by (string_bytes l.plain) (unescaped l.rest))

abbrev pub decreases-loop-before : goal.decreases-loop-before
decreases-loop-before l = length l.rest
