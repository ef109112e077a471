-- The promises of a column cut's result.
use Rattle.std.specs.Prelude.{◌≡◌, ℕ, ◌+◌, ◌-◌, ◌/◌, ◌<◌, ◌≤◌, List, length, min, sum, sum_by, zip, slice_index, slice_range}
use Rattle.html_render_parts_widths.specs.Cuts.{largest_slack, cut_by_units, IsCut, IsFairestCut}

-- whether widths, level and number of lowered columns are those of the cut of columns
pub record IsColumnCut (minimums shares : List ℕ) (width : ℕ) (widths : List ℕ) (level lowered : ℕ) : Type 0 where
  -- the widths are a fairest cut
  pub fairest : IsFairestCut minimums shares width widths
  -- the fairest cut is unique
  pub only_fairest : (other : List ℕ) → IsFairestCut minimums shares width other → other ≡ widths
  -- the loop of single units gives these widths
  pub by_units : widths ≡ cut_by_units minimums shares width
  -- the level is the largest slack; with `lowered` more, the widths add up to the greatest ones with slacks up to the level,
  -- each the minimum plus the level, or the share if that is less
  pub at_level : level ≡ largest_slack minimums widths
  pub lack : sum widths + lowered ≡ sum_by (λ x. min (x.0 + level) x.1) (zip minimums shares)
  -- the widths and the separators between columns add up to at most the width
  pub within : sum widths + (length widths - 1) ≤ width
  -- no cut has a smaller largest slack
  pub least_slack : (other : List ℕ) → IsCut minimums shares width other → largest_slack minimums widths ≤ largest_slack minimums other
  -- if the sum of shares passes that of minimums by at most the width, at most `width` units are taken
  pub units_taken : sum shares ≤ sum minimums + width → sum shares - sum widths ≤ width
  -- if the minimum of each of `count` neighbouring columns is at least `size / count`, rounded down, the widths of these
  -- columns and the separators between them add up to at least `size`
  pub neighbours : (from count size : ℕ) → 0 < count → from + count ≤ length minimums →
      ((k : ℕ) → from ≤ k → k < from + count → size / count ≤ slice_index minimums k) →
      size ≤ sum (slice_range widths from (from + count)) + (count - 1)
