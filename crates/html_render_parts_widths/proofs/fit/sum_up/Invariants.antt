use Rattle.std.proofs.Common.{◌≡◌, ◌*◌, ◌^◌, ◌≤◌, sum, take, drop, max}
use Rattle.html_render_parts_widths.specs.Cuts.{largest_slack}
use Rattle.html_render_parts_widths.proofs.fit.sum_up.Given as goal

-- the sums cover the first `i` columns; the greatest range of the first and of the rest is that of all
abbrev pub invariant-loop-i : goal.invariant-loop-i
invariant-loop-i l = record {
  minimums : l.least_widths ≡ sum (take l.i l.minimums);
  shares : l.all_shares ≡ sum (take l.i l.shares);
  small_minimums : l.least_widths ≤ l.i * 2 ^ 64;
  small_shares : l.all_shares ≤ l.i * 2 ^ 64;
  greatest : max l.greatest_range (largest_slack (drop l.i l.minimums) (drop l.i l.shares)) ≡ largest_slack l.minimums l.shares;
}
