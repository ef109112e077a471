-- How blocks in blocks are stored: the lines of all, a level for each block that is open in another one, and the prefixes that aren't empty.
use Rattle.std.specs.Prelude.{◌≡◌, ℕ, suc, ◌+◌, ◌-◌, ◌==◌, nat_lt, Bool, true, false, not, ◌&&◌, List, [], ◌∷◌, ◌++◌, map, take, drop, length, replicate, if◌then◌else◌}
use Rattle.html_render_layout_lines.specs.Line.{Line, is_empty, marks_line}
use Rattle.html_render_layout_lines.specs.TaggedText.{counted, text_columns, under}
use Rattle.html_render_layout_buffer.specs.declared.nested.prefixes.Later.{Later}
use Rattle.html_render_layout_buffer.specs.declared.nested.prefixes.Later.TheVariants.{Same, Spaces}
use Rattle.html_render_layout_buffer.specs.declared.nested.prefixes.Level.{Level}
use Rattle.html_render_layout_buffer.specs.declared.nested.widths.Widths.{Widths}
use Rattle.html_render_layout_buffer.specs.declared.nested.widths.Widths.TheVariants.{NoLines}
use Rattle.html_render_layout_buffer.specs.Marked.{marked_behind}
use Rattle.html_render_layout_buffer.specs.Nested.{Outer, Nested, front, full}
use Rattle.html_render_layout_buffer.specs.Widths.{with_each, with_block, widths_of}

-- the prefix of later lines, by that of the first line
abbrev pub later_characters : Later → List ℕ → List ℕ
later_characters Same first = first
later_characters (Spaces n) first = replicate n 0x20

-- the prefixes of a block's lines, the marks that precede the first one, and the number of the block's first line among all lines
pub record BlockPrefix (T M : Type 0) : Type 0 where
  pub tag : T
  pub marks : List M
  pub first : List ℕ
  pub later : List ℕ
  pub start : ℕ

-- What is stored. The first `start` lines are those of the outer blocks. The widths are those of the innermost block, if it is in another one.
pub record NestedFields (T M : Type 0) : Type 0 where
  pub lines : List (Line T M)
  pub prefixes : List (BlockPrefix T M)
  pub levels : List (Level T)
  pub start : ℕ
  pub widths : Widths

abbrev pub nothing_stored : {T M : Type 0} → NestedFields T M
nothing_stored = record { lines = []; prefixes = []; levels = []; start = 0; widths = NoLines }

-- ---- lines

-- all prefixes of line `number`
abbrev pub line_prefixes : {T M : Type 0} → (number : ℕ) → List (BlockPrefix T M) → Line T M
line_prefixes n [] = []
line_prefixes n (p ∷ ps) = (if p.start == n then marks_line p.marks ++ under p.tag p.first else under p.tag p.later) ++ line_prefixes n ps

-- lines after their prefixes, from line `number` on
abbrev pub lines_after : {T M : Type 0} → (number : ℕ) → List (BlockPrefix T M) → List (Line T M) → List (Line T M)
lines_after n ps [] = []
lines_after n ps (l ∷ ls) = (line_prefixes n ps ++ l) ∷ lines_after (suc n) ps ls

-- with lines at the end of the innermost block
abbrev pub lines_added : {T M : Type 0} → NestedFields T M → List (Line T M) → NestedFields T M
lines_added f ls = record f {
  lines = f.lines ++ lines_after (length f.lines) f.prefixes ls;
  widths = if is_empty f.levels then f.widths else with_each f.widths ls;
}

-- whether the innermost block has lines
abbrev pub has_lines : {T M : Type 0} → NestedFields T M → Bool
has_lines f = nat_lt f.start (length f.lines)

-- with marks at the end of the innermost block's last line
abbrev pub end_marked : {T M : Type 0} → NestedFields T M → List M → NestedFields T M
end_marked f ms = record f { lines = if has_lines f then marked_behind ms f.lines else f.lines }

-- ---- levels

-- whether a block with these prefixes, around which marks may wait, has a stored prefix
abbrev pub has_prefix : {M : Type 0} → (waiting : List M) → (first later : List ℕ) → Bool
has_prefix waiting first later = not (is_empty waiting && (is_empty first && is_empty later))

-- the level of a block in one of `lines` lines, which have these widths
abbrev pub level_of : {T M : Type 0} → (lines : ℕ) → Widths → Outer T M → Level T
level_of lines widths o = record {
  lines = lines;
  tag = o.tag;
  has_prefix = has_prefix o.waiting o.first o.later;
  first = counted (text_columns o.first);
  later = counted (text_columns o.later);
  widths = widths;
}

-- the prefix of a block, if it is stored
abbrev pub stored_if : {T M : Type 0} → Bool → (start : ℕ) → Outer T M → List (BlockPrefix T M)
stored_if b start o = if b then record { tag = o.tag; marks = o.waiting; first = o.first; later = o.later; start = start } ∷ [] else []

abbrev pub own_prefix : {T M : Type 0} → (start : ℕ) → Outer T M → List (BlockPrefix T M)
own_prefix start o = stored_if (has_prefix o.waiting o.first o.later) start o

-- the block around one that begins, without its lines
abbrev pub block_around : {T M : Type 0} → List M → (tag : T) → (first later : List ℕ) → Outer T M
block_around waiting tag first later = record { lines = []; waiting = waiting; tag = tag; first = first; later = later }

-- with a block in the innermost one
abbrev pub level_opened : {T M : Type 0} → NestedFields T M → Outer T M → NestedFields T M
level_opened f o = record f {
  prefixes = f.prefixes ++ own_prefix (length f.lines) o;
  levels = f.levels ++ level_of (length f.lines - f.start) f.widths o ∷ [];
  start = length f.lines;
  widths = NoLines;
}

-- after the end of the innermost block, whose level is taken off the list
abbrev pub level_closed : {T M : Type 0} → NestedFields T M → Level T → NestedFields T M
level_closed f v = record f {
  prefixes = if v.has_prefix then take (length f.prefixes - 1) f.prefixes else f.prefixes;
  start = f.start - v.lines;
  widths = if is_empty f.levels then NoLines else with_block v.widths v.first v.later f.widths;
}

-- the marks before the last prefix
abbrev pub last_marks : {T M : Type 0} → List (BlockPrefix T M) → List M
last_marks [] = []
last_marks (p ∷ []) = p.marks
last_marks (p ∷ q ∷ ps) = last_marks (q ∷ ps)

-- the marks that wait in the block around after the end of the innermost block, in which these marks still wait
abbrev pub waiting_left : {T M : Type 0} → NestedFields T M → Level T → List M → List M
waiting_left f v ms = if has_lines f then [] else (if v.has_prefix then last_marks f.prefixes else []) ++ ms

-- ---- what is stored of blocks

-- the widths that are noted of a block's lines: none of those of the outermost block
abbrev pub noted : {T M : Type 0} → (inner : Bool) → List (Line T M) → Widths
noted false ls = NoLines
noted true ls = widths_of ls

-- the levels of blocks in these, each in the one before it, where the first one may be in another one
abbrev pub levels_of : {T M : Type 0} → (inner : Bool) → List (Outer T M) → List (Level T)
levels_of b [] = []
levels_of b (o ∷ os) = level_of (length o.lines) (noted b o.lines) o ∷ levels_of true os

-- the stored prefixes of blocks in these, where `base` lines precede the first one's
abbrev pub prefixes_at : {T M : Type 0} → (base : ℕ) → List (Outer T M) → List (BlockPrefix T M)
prefixes_at base [] = []
prefixes_at base (o ∷ os) = own_prefix (base + length o.lines) o ++ prefixes_at (base + length o.lines) os

abbrev pub lines_around : {T M : Type 0} → List (Outer T M) → ℕ
lines_around [] = 0
lines_around (o ∷ os) = length o.lines + lines_around os

-- the fields hold these blocks
pub record IsNested {T M : Type 0} (f : NestedFields T M) (v : Nested T M) : Type 0 where
  pub all_lines : f.lines ≡ full v.outer v.lines
  pub prefixed : f.prefixes ≡ prefixes_at 0 v.outer
  pub opened : f.levels ≡ levels_of false v.outer
  pub lines_before : f.start ≡ lines_around v.outer
  pub own_widths : f.widths ≡ noted (not (is_empty f.levels)) v.lines

-- ---- the blocks, read from the fields

abbrev pub first_or : {T M : Type 0} → (has_prefix : Bool) → List (BlockPrefix T M) → (tag : T) → BlockPrefix T M
first_or true (p ∷ ps) tag = p
first_or true [] tag = record { tag = tag; marks = []; first = []; later = []; start = 0 }
first_or false ps tag = record { tag = tag; marks = []; first = []; later = []; start = 0 }

abbrev pub outer_read : {T M : Type 0} → Level T → BlockPrefix T M → List (Line T M) → Outer T M
outer_read v p ls = record { lines = take v.lines ls; waiting = p.marks; tag = v.tag; first = p.first; later = p.later }

-- lines without the prefixes of a block
abbrev pub unplaced : {T M : Type 0} → Outer T M → List (Line T M) → List (Line T M)
unplaced o [] = []
unplaced {T} {M} o (l ∷ ls) = drop (length (front o)) l ∷ map (λ (k : Line T M). drop (length o.later) k) ls

abbrev pub with_outer : {T M : Type 0} → Outer T M → Nested T M → Nested T M
with_outer o v = record v { outer = o ∷ v.outer }

abbrev pub blocks_read : {T M : Type 0} → List (Level T) → List (BlockPrefix T M) → List (Line T M) → Nested T M
blocks_read [] ps ls = record { lines = ls; outer = [] }
blocks_read (v ∷ vs) ps ls =
    let o = outer_read v (first_or v.has_prefix ps v.tag) ls in
    with_outer o (blocks_read vs (if v.has_prefix then drop 1 ps else ps) (unplaced o (drop v.lines ls)))

abbrev pub nested_of : {T M : Type 0} → NestedFields T M → Nested T M
nested_of f = blocks_read f.levels f.prefixes f.lines

abbrev pub HoldsNested : {T M : Type 0} → NestedFields T M → Type 0
HoldsNested f = IsNested f (nested_of f)
