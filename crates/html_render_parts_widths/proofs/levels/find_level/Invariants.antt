use Rattle.std.proofs.Common.{◌≡◌, ℕ, ◌+◌, ◌-◌, ◌*◌, ◌<◌, ◌≤◌, ◌^◌}
use Rattle.html_render_parts_widths.specs.LevelForm.{capped_sum, ranges}
use Rattle.html_render_parts_widths.proofs.levels.find_level.Given as goal

-- the wanted level is between `low` and `high`, and each probe has halved their distance
abbrev pub invariant-loop-low : goal.invariant-loop-low
invariant-loop-low l = record {
  ordered : l.low ≤ l.high;
  enough : l.wanted ≤ l.sum;
  capped : l.sum ≡ capped_sum l.high (ranges l.minimums l.shares);
  least : (m : ℕ) → m < l.low → capped_sum m (ranges l.minimums l.shares) < l.wanted;
  probes : l.probes ≤ 64;
  halved : (l.high - l.low) * 2 ^ l.probes ≤ l.fn.highest.level;
  no_more : l.fn.highest.level + 2 ≤ (l.high - l.low + 2) * 2 ^ l.probes;
  fits : l.fn.highest.level < 2 ^ 64;
  last : 2 ^ l.probes ≤ 2 * l.fn.highest.level + 1;
}

abbrev pub decreases-loop-low : goal.decreases-loop-low
decreases-loop-low l = l.high - l.low
