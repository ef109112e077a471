use Rattle.std.proofs.Common.{◌≡◌, ◌++◌, take}
use Rattle.html_render_parts.specs.Placement.{rising}
use Rattle.html_render_parts.proofs.table.gathering.push_all_unknown.Given as goal

-- the positions so far
abbrev pub invariant-loop-position : goal.invariant-loop-position
invariant-loop-position l = rising l.gathered.items ≡ rising (l.fn.gathered.items ++ take l.position-index l.positions)
