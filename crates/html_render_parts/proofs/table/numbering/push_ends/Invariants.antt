use Rattle.std.proofs.Common.{◌≡◌, ◌++◌, map, take}
use Rattle.html_render_parts.proofs.table.numbering.push_ends.Given as goal

abbrev pub invariant-loop-place : goal.invariant-loop-place
invariant-loop-place l = l.positions.items ≡ l.initial.positions.items ++ map (λ p. p.end) (take l.place-index l.places)
