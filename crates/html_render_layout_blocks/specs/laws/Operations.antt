-- Counts in blocks.
use Rattle.std.specs.Prelude.{ℕ, ◌+◌, ◌≤◌, Bool, List, IfSome}
use Rattle.html_render_parts_widths.specs.declared.shares.ColumnNeed.{ColumnNeed}
use Rattle.html_render_layout_lines.specs.declared.character.TextStyle.{TextStyle}
use Rattle.html_render_parts.specs.TableCells.{CellGrid}
use Rattle.html_render_layout_blocks.specs.Operations.{Operations}

-- Whether a text adds to what v counts in a block at least what w counts in the text, and no other operation lessens the
-- count. A block that is appended or added as a cell adds at least its own count.
pub record Counts {B T : Type 0} (v : B → ℕ) (w : List ℕ → ℕ) (o : Operations B T ℕ) : Type 0 where
  pub add_inline_text : (b : B) (s : TextStyle T) (cs : List ℕ) → IfSome (o.add_inline_text b s cs) (λ c. v b + w cs ≤ v c)
  pub add_mark : (b : B) (m : ℕ) → v b ≤ v (o.add_mark b m)
  pub new_line : (b : B) → IfSome (o.new_line b) (λ c. v b ≤ v c)
  pub new_line_hard : (b : B) → IfSome (o.new_line_hard b) (λ c. v b ≤ v c)
  pub start_block : (b : B) → IfSome (o.start_block b) (λ c. v b ≤ v c)
  pub end_block : (b : B) → v b ≤ v (o.end_block b)
  pub append : (b c : B) (t : T) (first later : List ℕ) → IfSome (o.append b c t first later) (λ d. v b + v c ≤ v d)
  pub begin_table : (b : B) (t : T) (borders stacked : Bool) (grid : CellGrid) (needs : List ColumnNeed) →
      IfSome (o.begin_table b t borders stacked grid needs) (λ c. v b ≤ v c)
  pub begin_row : (b : B) → v b ≤ v (o.begin_row b)
  pub add_cell : (b c : B) → IfSome (o.add_cell b c) (λ d. v b + v c ≤ v d)
  pub skip_cell : (b : B) → v b ≤ v (o.skip_cell b)
  pub end_row : (b : B) → IfSome (o.end_row b) (λ c. v b ≤ v c)
  pub end_table : (b : B) → v b ≤ v (o.end_table b)
