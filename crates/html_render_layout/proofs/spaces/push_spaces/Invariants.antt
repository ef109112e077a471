use Rattle.std.specs.Prelude.{◌≡◌, ◌++◌, string_bytes}
use Rattle.html_render_layout.specs.Layout.{spaces}
use Rattle.html_render_layout.proofs.spaces.push_spaces.Given as goal

abbrev pub invariant-loop : goal.invariant-loop
invariant-loop l = string_bytes l.text ≡ string_bytes l.initial.text ++ spaces l.counter
