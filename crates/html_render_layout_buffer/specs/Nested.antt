-- Blocks in blocks: the lines of each open block, without the prefixes of the blocks around it; and the lines of all blocks.
use Rattle.std.specs.Prelude.{ℕ, List, [], ◌∷◌, ◌++◌, if◌then◌else◌}
use Rattle.html_render_layout_lines.specs.Line.{Line, is_empty, marks_line}
use Rattle.html_render_layout_lines.specs.TaggedText.{under}
use Rattle.html_render_layout_buffer.specs.Marked.{marked_behind}
use Rattle.html_render_layout_buffer.specs.Prefixed.{prefixed}

-- A block that is open around another one: its lines; the marks that wait around the inner block, which precede the first prefix; and the
-- prefixes of the inner block's lines, under a tag.
pub record Outer (T M : Type 0) : Type 0 where
  pub lines : List (Line T M)
  pub waiting : List M
  pub tag : T
  pub first : List ℕ
  pub later : List ℕ

-- The lines of the innermost open block; and the blocks around it, outermost first.
pub record Nested (T M : Type 0) : Type 0 where
  pub lines : List (Line T M)
  pub outer : List (Outer T M)

abbrev pub no_blocks : {T M : Type 0} → Nested T M
no_blocks = record { lines = []; outer = [] }

-- what precedes the first line of the inner block: the marks that wait around it, and the first prefix
abbrev pub front : {T M : Type 0} → Outer T M → Line T M
front o = marks_line o.waiting ++ under o.tag o.first

-- lines of the inner block, as lines of the block around it
abbrev pub placed_in : {T M : Type 0} → Outer T M → List (Line T M) → List (Line T M)
placed_in o ls = prefixed (front o) (under o.tag o.later) ls

-- the lines of all blocks, those of an inner block after its prefixes
abbrev pub full : {T M : Type 0} → List (Outer T M) → List (Line T M) → List (Line T M)
full [] ls = ls
full (o ∷ os) ls = o.lines ++ placed_in o (full os ls)

-- ---- steps

-- lines at the end of the innermost block
abbrev pub with_lines : {T M : Type 0} → Nested T M → List (Line T M) → Nested T M
with_lines v ls = record { lines = v.lines ++ ls; outer = v.outer }

-- marks at the end of the innermost block's last line
abbrev pub with_last_marked : {T M : Type 0} → Nested T M → List M → Nested T M
with_last_marked v ms = record { lines = marked_behind ms v.lines; outer = v.outer }

-- a block in the innermost one
abbrev pub with_block_begun : {T M : Type 0} → Nested T M → (waiting : List M) → (tag : T) → (first later : List ℕ) → Nested T M
with_block_begun v waiting tag first later = record {
  lines = [];
  outer = v.outer ++ record { lines = v.lines; waiting = waiting; tag = tag; first = first; later = later } ∷ [];
}

-- The block around, which is the last of the outer ones, with the lines of the innermost block. The marks that still wait in that are put
-- at the end of its last line.
abbrev pub with_block_ended : {T M : Type 0} → List (Outer T M) → Outer T M → Nested T M → List M → Nested T M
with_block_ended os o v marks = record { lines = o.lines ++ placed_in o (marked_behind marks v.lines); outer = os }

-- the marks that wait in the block around after the end of the innermost block: those of both, if that has no lines
abbrev pub waiting_after : {T M : Type 0} → Outer T M → Nested T M → List M → List M
waiting_after o v marks = if is_empty v.lines then o.waiting ++ marks else []
