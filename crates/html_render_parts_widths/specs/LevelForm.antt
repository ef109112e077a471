-- The level form of a cut, by which the widths are found: the ranges of the columns are capped at a level.
use Rattle.std.specs.Prelude.{◌≡◌, ℕ, ◌+◌, ◌-◌, ◌<◌, ◌≤◌, ◌⊎◌, List, [], ◌∷◌, length, min, sum, sum_by, slice_index}
use Rattle.html_render_parts_widths.specs.Cuts.{total_width, slack}

-- the range of each column: its share minus its minimum
abbrev pub ranges : List ℕ → List ℕ → List ℕ
ranges (minimum ∷ minimums) (share ∷ shares) = (share - minimum) ∷ ranges minimums shares
ranges minimums shares = []

-- the sum of the ranges, each capped at the level
abbrev pub capped_sum : ℕ → List ℕ → ℕ
capped_sum level ranges = sum_by (λ range. min range level) ranges

-- whether a level is the least one at which the capped ranges add up to at least `wanted`
pub record IsLevel (level : ℕ) (ranges : List ℕ) (wanted : ℕ) : Type 0 where
  pub enough : wanted ≤ capped_sum level ranges
  pub least : (l : ℕ) → l < level → capped_sum l ranges < wanted

module _ (minimums shares : List ℕ) where
  -- the difference between the sum of a cut's widths and the sum of the minimums
  abbrev pub wanted : ℕ → ℕ
  wanted width = total_width shares width - sum minimums

  -- a column's full width: its minimum plus its range capped at the level
  abbrev pub full_width : (level k : ℕ) → ℕ
  full_width level k = slice_index minimums k + min (slack minimums shares k) level

  -- whether a column's range reaches the level, which is above 0, and its width is 1 less than its full width
  abbrev pub IsLowered : (widths : List ℕ) → (level k : ℕ) → Type 0
  IsLowered widths level k = (0 < level) × (level ≤ slack minimums shares k) × (slice_index widths k + 1 ≡ full_width level k)

  -- Whether widths are the level form of a cut: each column has its full width or is lowered, and `lowered` columns are, one
  -- for each unit of excess. The lowered columns are the first of those whose range reaches the level, by greater width and
  -- then from the left.
  pub record IsLevelForm (width : ℕ) (widths : List ℕ) (level lowered : ℕ) : Type 0 where
    pub is_level : IsLevel level (ranges minimums shares) (wanted width)
    pub rest : lowered + wanted width ≡ capped_sum level (ranges minimums shares)
    pub lengths : length widths ≡ length minimums
    pub each : (k : ℕ) → k < length minimums → (slice_index widths k ≡ full_width level k) ⊎ IsLowered widths level k
    pub count : sum widths + lowered ≡ sum minimums + capped_sum level (ranges minimums shares)
    pub first : (i j : ℕ) → i < length minimums → j < length minimums → IsLowered widths level i → level ≤ slack minimums shares j →
        slice_index widths j ≡ full_width level j →
        (full_width level j < full_width level i) ⊎ ((full_width level j ≡ full_width level i) × (i < j))
