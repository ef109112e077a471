use Rattle.std.proofs.Common.{◌≡◌, ◌++◌, drop, map}
use Rattle.html_render_parts_widths.specs.Shares.{share}
use Rattle.html_render_parts_widths.specs.CutSteps.{greater_ones}
use Rattle.html_render_parts_widths.proofs.shares.put_shares.Given as goal

-- the shares of the first columns, and those of the others, are all shares
abbrev pub invariant-loop-at : goal.invariant-loop-at
invariant-loop-at l =
    l.all.items ++ greater_ones (drop l.at l.minimums) (map (share l.width l.total) (drop l.at l.needs))
    ≡ greater_ones l.minimums (map (share l.width l.total) l.needs)
