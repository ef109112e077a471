use Rattle.std.proofs.Common.{◌≡◌, ◌++◌, replicate, string_bytes}
use Rattle.html_render_dom.proofs.dom.dump.write_indent.Given as goal

abbrev pub invariant-loop : goal.invariant-loop
invariant-loop l = string_bytes l.text ≡ string_bytes l.initial.text ++ replicate l.counter 32
