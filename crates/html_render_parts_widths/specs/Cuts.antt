-- Cuts of a table's columns to its width. Each column has a minimum, its least possible width, and a share, its preferred
-- width at the table's width. Between neighbouring columns is a separator of width 1.
use Rattle.std.specs.Prelude.{◌≡◌, ◌≢◌, ℕ, ◌+◌, ◌-◌, ◌<◌, ◌≤◌, ◌⊎◌, List, ◌∷◌, zero, suc, length, min, max, sum, slice_index}
use Rattle.std.specs.Prelude.{slice_set, nat_lt, ◌==◌, ◌||◌, ◌&&◌, if◌then◌else◌}

-- whether the shares can be cut to the width
pub record CutFits (minimums shares : List ℕ) (width : ℕ) : Type 0 where
  pub lengths : length minimums ≡ length shares
  pub each : (k : ℕ) → k < length minimums → slice_index minimums k ≤ slice_index shares k
  pub room : sum minimums + (length minimums - 1) ≤ width

-- the sum of a cut's widths: the sum of the shares, or the width without the separators if that is less
abbrev pub total_width : List ℕ → ℕ → ℕ
total_width shares width = min (sum shares) (width - (length shares - 1))

-- the distance of a column's width to its minimum
abbrev pub slack : List ℕ → List ℕ → ℕ → ℕ
slack minimums widths k = slice_index widths k - slice_index minimums k

-- the largest slack; 0 without columns. That of the shares is the greatest range
abbrev pub largest_slack : List ℕ → List ℕ → ℕ
largest_slack (minimum ∷ minimums) (width ∷ widths) = max (width - minimum) (largest_slack minimums widths)
largest_slack minimums widths = 0

-- ---- the fairest cut

-- whether the first of two columns gives a unit before the second: by greater slack, then greater width, then as the left
-- one
abbrev pub GivesBefore : (slack width place slack' width' place' : ℕ) → Type 0
GivesBefore slack width place slack' width' place' =
    (slack' < slack) ⊎ ((slack' ≡ slack) × ((width' < width) ⊎ ((width' ≡ width) × (place < place'))))

module _ (minimums shares : List ℕ) where
  -- whether each width is between its minimum and its share, and the widths of one or more columns add up to the total width
  pub record IsCut (width : ℕ) (widths : List ℕ) : Type 0 where
    pub lengths : length widths ≡ length minimums
    pub lower : (k : ℕ) → k < length minimums → slice_index minimums k ≤ slice_index widths k
    pub upper : (k : ℕ) → k < length minimums → slice_index widths k ≤ slice_index shares k
    pub total : 0 < length minimums → sum widths ≡ total_width shares width

  -- whether widths are a cut, and each column below its share, with one unit put back, gives before each other column
  pub record IsFairestCut (width : ℕ) (widths : List ℕ) : Type 0 where
    pub is_cut : IsCut width widths
    pub last_unit : (i j : ℕ) → i < length minimums → j < length minimums → i ≢ j → slice_index widths i < slice_index shares i →
        GivesBefore ((slice_index widths i + 1) - slice_index minimums i) (slice_index widths i + 1) i
        (slack minimums widths j) (slice_index widths j) j

-- ---- the loop of single units

-- the column among the first n that gives the next unit: that of greatest slack, of these the widest, of these the leftmost
unfoldable pub giver : List ℕ → List ℕ → ℕ → ℕ
giver minimums widths zero = 0
giver minimums widths (suc n) =
    let best = giver minimums widths n in
    if nat_lt (slack minimums widths best) (slack minimums widths n)
    || (slack minimums widths best == slack minimums widths n && nat_lt (slice_index widths best) (slice_index widths n)) then n else best

-- the widths after a number of units are taken, one by one
unfoldable pub without_units : ℕ → List ℕ → List ℕ → List ℕ
without_units zero minimums widths = widths
without_units (suc n) minimums widths =
    let from = giver minimums widths (length widths) in
    without_units n minimums (slice_set widths from (slice_index widths from - 1))

-- the shares after units are taken until their sum is the total width
unfoldable pub cut_by_units : List ℕ → List ℕ → ℕ → List ℕ
cut_by_units minimums shares width = without_units (sum shares - total_width shares width) minimums shares
