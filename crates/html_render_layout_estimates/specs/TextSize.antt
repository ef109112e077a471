-- The preferred width of a text: its columns on a line that is long enough for all of it.
use Rattle.std.specs.Prelude.{ℕ, ◌≡◌, ◌≢◌, ◌≤◌, ◌<◌, ◌+◌, ◌-◌, ◌^◌, min, slice_index, Bool, true, false, List, [], ◌∷◌, if◌then◌else◌}
use Rattle.html_render_layout_lines.specs.Character.{is_collapsible, width_of}

-- a number, limited to the greatest one of 64 bits
abbrev pub saturated : ℕ → ℕ
saturated n = min n (2 ^ 64 - 1)

-- the columns of characters, where a run of white space counts 1 if another character follows it; `spaced` says whether
-- white space precedes them
abbrev pub collapsed_columns : (spaced : Bool) → List ℕ → ℕ
collapsed_columns spaced [] = 0
collapsed_columns spaced (c ∷ cs) = if is_collapsible c then collapsed_columns true cs else (if spaced then 1 else 0) + width_of c + collapsed_columns false cs

-- the columns of characters without the white space at their start
abbrev pub inner_columns : List ℕ → ℕ
inner_columns [] = 0
inner_columns (c ∷ cs) = if is_collapsible c then inner_columns cs else collapsed_columns false (c ∷ cs)

-- THE PREFERRED WIDTH OF A TEXT: white space at its start counts 1 if the rest has any column
abbrev pub size_of : List ℕ → ℕ
size_of [] = 0
size_of (c ∷ cs) = if is_collapsible c then inner_columns cs + min (inner_columns cs) 1 else collapsed_columns false (c ∷ cs)

-- whether the bytes from `low` up to `high` are printable ASCII, and no space among them follows another space
abbrev pub IsPlainBetween : List ℕ → (low high : ℕ) → Type 0
IsPlainBetween bytes low high =
    (k : ℕ) → low ≤ k → k < high →
    (32 ≤ slice_index bytes k) × (slice_index bytes k ≤ 126) × (slice_index bytes k ≡ 32 → slice_index bytes (k - 1) ≢ 32)
