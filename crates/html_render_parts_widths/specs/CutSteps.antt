-- Properties of the intermediate results of a column cut.
use Rattle.std.specs.Prelude.{◌≡◌, ◌≢◌, ℕ, ◌+◌, ◌<◌, ◌≤◌, ◌⊎◌, List, length, map, max, sum, zip, slice_index}
use Rattle.html_render_parts_widths.specs.declared.shares.ColumnNeed.{ColumnNeed}
use Rattle.html_render_parts_widths.specs.Cuts.{slack}
use Rattle.html_render_parts_widths.specs.LevelForm.{full_width, IsLowered}

-- whether there are equally many minimums and shares, and each minimum is at most its share
pub record AreColumns (minimums shares : List ℕ) : Type 0 where
  pub lengths : length minimums ≡ length shares
  pub each : (k : ℕ) → k < length minimums → slice_index minimums k ≤ slice_index shares k

-- whether one column is lowered before another: by greater width, then as the left one
abbrev pub LoweredBefore : (width place width' place' : ℕ) → Type 0
LoweredBefore width place width' place' = (width' < width) ⊎ ((width' ≡ width) × (place < place'))

-- whether a list holds the indices below a bound of the columns at the level, each once, in any order
pub record AreAtLevel (minimums shares : List ℕ) (level bound : ℕ) (places : List ℕ) : Type 0 where
  pub inside : (p : ℕ) → p < length places → slice_index places p < bound
  pub at_level : (p : ℕ) → p < length places → level ≤ slack minimums shares (slice_index places p)
  pub complete : (k : ℕ) → k < bound → level ≤ slack minimums shares k → (p : ℕ) × (p < length places) × (slice_index places p ≡ k)
  pub distinct : (p q : ℕ) → p < length places → q < length places → p ≢ q → slice_index places p ≢ slice_index places q

-- whether a list holds the indices of the columns at the level, in the order in which they are lowered
pub record AreInOrder (minimums shares : List ℕ) (level : ℕ) (places : List ℕ) : Type 0 where
  pub are_at_level : AreAtLevel minimums shares level (length minimums) places
  pub ordered : (p q : ℕ) → p < q → q < length places →
      LoweredBefore (slice_index minimums (slice_index places p) + level) (slice_index places p)
      (slice_index minimums (slice_index places q) + level) (slice_index places q)

-- whether the widths of the first `count` columns at the level are 1 less than before, and the others are unchanged
pub record AreLowered (minimums shares : List ℕ) (level count : ℕ) (old new : List ℕ) : Type 0 where
  pub lengths : length new ≡ length old
  pub each : (k : ℕ) → k < length old →
      (slice_index new k ≡ slice_index old k) ⊎
      ((0 < level) × (level ≤ slack minimums shares k) × (slice_index new k + 1 ≡ slice_index old k))
  pub total : sum new + count ≡ sum old
  pub first : (i j : ℕ) → i < length old → j < length old → slice_index new i + 1 ≡ slice_index old i → level ≤ slack minimums shares j →
      slice_index new j ≡ slice_index old j →
      LoweredBefore (slice_index old i) i (slice_index old j) j

-- whether a column has its full width
abbrev pub IsFull : List ℕ → List ℕ → List ℕ → ℕ → ℕ → Type 0
IsFull minimums shares widths level k = slice_index widths k ≡ full_width minimums shares level k

-- whether each lowered column precedes, in the order of lowering, each column at the level with its full width; at the
-- level, a greater minimum means a greater width
pub record LowersFirst (minimums shares widths : List ℕ) (level : ℕ) : Type 0 where
  pub first : (i j : ℕ) → i < length minimums → j < length minimums → IsLowered minimums shares widths level i
      → level ≤ slack minimums shares j → IsFull minimums shares widths level j
      → LoweredBefore (slice_index minimums i) i (slice_index minimums j) j

-- ---- shares and minimums of columns, as code computes them

-- the width at which a column cuts no word: that of its longest word, at least its minimum width
abbrev pub whole_width : ColumnNeed → ℕ
whole_width need = max need.min_width need.longest_word

-- the greater number at each place of two lists
abbrev pub greater_ones : List ℕ → List ℕ → List ℕ
greater_ones xs ys = map (λ x. max x.0 x.1) (zip xs ys)
