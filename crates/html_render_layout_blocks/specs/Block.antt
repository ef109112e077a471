-- A BLOCK: its finished lines, its open paragraph and its open table, over any paragraphs and pictures (`Parts`). The
-- definition keeps lists of what was fed; the machine is fed character by character. These operations are those of
-- both.
use Rattle.std.specs.Prelude.{ℕ, ◌-◌, max, min, nat_le, Bool, true, false, not, ◌||◌, ◌&&◌, List, [], ◌∷◌, ◌++◌, map, length, ◌==◌}
use Rattle.std.specs.Prelude.{Option, Some, None, option_map, unwrap_or, if◌then◌else◌}
use Rattle.std.specs.List.{list_all}
use Rattle.std.specs.Option.{option_map_or}
use Rattle.html_render_layout_pictures.specs.declared.borders.TheConstants.{BORDERS}
use Rattle.html_render_dom_values.specs.Outcome.{◌>>=◌}
use Rattle.html_render_dom_values.specs.declared.white_space.WhiteSpace.{WhiteSpace}
use Rattle.html_render_dom_values.specs.declared.white_space.WhiteSpace.TheVariants.{Normal}
use Rattle.html_render_layout_lines.specs.declared.character.Item.{Item}
use Rattle.html_render_layout_lines.specs.declared.character.Item.TheVariants.{Mark}
use Rattle.html_render_layout_lines.specs.Character.{is_collapsible}
use Rattle.html_render_layout_lines.specs.Line.{Line, is_empty}
use Rattle.html_render_layout_lines.specs.TaggedText.{under}
use Rattle.html_render_layout_paragraphs.specs.Paragraph.{Setting, LineBuffer, all_lines}
use Rattle.html_render_layout_paragraphs.specs.Stream.{styled}
use Rattle.html_render_parts_widths.specs.Shares.{widths_across}
use Rattle.html_render_parts.specs.declared.table.PlacedCell.{PlacedCell}
use Rattle.html_render_parts.specs.TableCells.{rows_on}
use Rattle.html_render_layout_buffer.specs.Marked.{marked_before, marked_behind}
use Rattle.html_render_layout_buffer.specs.Padding.{filled, repeated}
use Rattle.html_render_layout_pictures.specs.Picture.{KeptCell}
use Rattle.html_render_layout_blocks.specs.declared.block.BlockSetting.{BlockSetting}
use Rattle.html_render_layout_blocks.specs.declared.block.tables.OpenTable.{OpenTable}
use Rattle.html_render_layout_blocks.specs.declared.block.tables.OpenTable.TheVariants.{Across, Stacked}
use Rattle.html_render_layout_blocks.specs.Closing.{closing_lines}
use Rattle.html_render_layout_buffer.specs.Prefixed.{prefixed}
use Rattle.html_render_layout_blocks.specs.Joined.{fitting}
use Rattle.html_render_layout_blocks.specs.OpenRows.{past_cell}
use Rattle.html_render_layout_blocks.specs.Operations.{Operations}
use Rattle.html_render_layout_blocks.specs.Parts.{Parts}
use Rattle.html_render_layout_blocks.specs.Tables.{frame_of, with_row_open, next_cell_width, skipped, with_open, with_ahead}

-- Setting of a block's paragraphs: their lines have its width, or at most `max_wrap_width`.
abbrev pub paragraph_setting : BlockSetting → Setting
paragraph_setting s = record { width = unwrap_or (option_map (min s.width) s.max_wrap_width) s.width; overflow = s.overflow }

-- Whether a text is dropped at the end of a block: whether it is collapsible white space alone, under `Normal`.
abbrev pub is_collapsible_text : WhiteSpace → List ℕ → Bool
is_collapsible_text Normal cs = list_all is_collapsible cs
is_collapsible_text _ cs = false

-- Marks as items that a paragraph is fed.
abbrev pub mark_items : {T M : Type 0} → List M → List (Item T M)
mark_items {T} {M} ms = map (λ (m : M). Mark m) ms

-- Columns of a sub-block after a prefix of `prefix` columns, at least `inner`. None, with overflow off, if fewer than
-- `inner` columns are free.
abbrev pub inner_width : BlockSetting → ℕ → ℕ → Option ℕ
inner_width s prefix inner = if s.overflow || nat_le inner (s.width - prefix) then Some (max (s.width - prefix) inner) else None

-- Setting, tag of padding spaces if there is padding, finished lines, open paragraph, whether a block has ended here,
-- and open table if there is one.
pub record Block (P R T M : Type 0) : Type 0 where
  pub setting : BlockSetting
  pub padding : Option T
  pub lines : List (Line T M)
  pub paragraph : P
  pub at_block_end : Bool
  pub table : Option (OpenTable R T M)

module _ {P R T M : Type 0} (parts : Parts P R T M) where
  -- Block without lines.
  abbrev pub empty_block : BlockSetting → (padding : Option T) → Block P R T M
  empty_block s padding =
      record { setting = s; padding = padding; lines = []; paragraph = parts.start (paragraph_setting s) []; at_block_end = false; table = None }

  -- Block with the lines of its paragraph, padded to its width if there is padding, and an empty paragraph with the
  -- marks that still wait. None if the paragraph is too narrow.
  abbrev pub flush : Block P R T M → Option (Block P R T M)
  flush b = option_map
      (λ (g : LineBuffer T M). record b { lines = b.lines ++ filled b.padding b.setting.width (all_lines g); paragraph = parts.next b.paragraph g.waiting })
      (parts.finish b.paragraph)

  -- Block with lines added as they are. The waiting marks are at the front of the first one.
  abbrev pub add_lines : Block P R T M → List (Line T M) → Block P R T M
  add_lines b ls = record b { lines = b.lines ++ marked_before (parts.waiting b.paragraph) ls; paragraph = parts.without_waiting b.paragraph }

  -- Block in which no block has ended. With a gap it has an empty line more, with the waiting marks.
  abbrev pub unended : (gap : Bool) → Block P R T M → Block P R T M
  unended gap b = record (if gap then add_lines b ([] ∷ []) else b) { at_block_end = false }

  -- Block after the start of a block: flushed, with an empty line unless there was no line.
  abbrev pub start_block : Block P R T M → Option (Block P R T M)
  start_block b = option_map (λ (e : Block P R T M). unended (not (is_empty e.lines)) e) (flush b)

  -- Block whose paragraph was fed characters and marks.
  abbrev pub feed : Block P R T M → List (Item T M) → Block P R T M
  feed b xs = record b { paragraph = parts.feed b.paragraph xs }

  -- ---- Blocks in blocks

  -- Empty block of a width in another block.
  abbrev pub inner_block : Block P R T M → ℕ → Block P R T M
  inner_block b width = empty_block (record b.setting { width = width }) b.padding

  -- Flushed block with lines added. Its waiting marks are at the front of the first line, the other marks at the end of
  -- the last one. Without lines all of them wait.
  abbrev pub put_lines : Block P R T M → List (Line T M) → List M → Block P R T M
  put_lines b [] ms = feed b (mark_items ms)
  put_lines b (l ∷ ls) ms = add_lines b (marked_behind ms (l ∷ ls))

  -- ---- Tables

  -- Block whose open table, the one given, is ended. The lines of a picture are added, and the marks that wait after it
  -- keep waiting.
  abbrev pub end_open : Block P R T M → Option (OpenTable R T M) → Block P R T M
  end_open b None = b
  end_open b (Some (Across picture widths ahead row)) =
      let p = parts.drawn (with_ahead parts widths ahead (with_open parts picture row)) in
      feed (record b { lines = b.lines ++ p.0; table = None }) (mark_items p.1)
  end_open b (Some (Stacked border has_lines)) = record b { table = None }

  -- Block whose open table, if there is one, is ended.
  abbrev pub end_table : Block P R T M → Block P R T M
  end_table b = end_open b b.table

  -- Block with a border, a line of one character as wide as the block, if borders are drawn.
  abbrev pub add_border : Block P R T M → (border : Option T) → (character : ℕ) → Block P R T M
  add_border b border character = option_map_or (λ tag. add_lines b (repeated tag character b.setting.width ∷ [])) border b

  -- Flushed block with a stacked table, or with another row of it, below a border if borders are drawn.
  abbrev pub stacked_begun : Block P R T M → Option T → Block P R T M
  stacked_begun b border = record (add_border b border BORDERS.line) { table = Some (Stacked border false) }

  -- Flushed block with a table whose columns have these widths, or with a stacked table if there are none.
  abbrev pub with_table_begun : Block P R T M → T → (borders : Bool) → (ahead : List (List PlacedCell)) → Option (List ℕ) → Block P R T M
  with_table_begun b tag borders ahead None = stacked_begun b (if borders && not (b.setting.width == 0) then Some tag else None)
  with_table_begun b tag borders ahead (Some widths) =
      let picture = parts.begun (frame_of tag borders widths) (parts.waiting b.paragraph) in
      record b { paragraph = parts.without_waiting b.paragraph; table = Some (Across picture widths ahead None) }

  -- Flushed block with a cell of a stacked table. A line of slashes separates the cell from the earlier cells of its
  -- row, if both have lines and borders are drawn.
  abbrev pub put_stacked : Block P R T M → Option T → (has_lines more : Bool) → Block P R T M → Block P R T M
  put_stacked b border has_lines more cell =
      let above = if has_lines && more then add_border b border BORDERS.slash else b in
      record (put_lines above cell.lines (parts.waiting cell.paragraph)) { table = Some (Stacked border (has_lines || more)) }

  -- Block with another flushed block as the next cell of the given open table.
  abbrev pub cell_added : Block P R T M → Option (OpenTable R T M) → Block P R T M → Option (Block P R T M)
  cell_added b (Some (Across picture widths ahead (Some row))) cell =
      let kept : KeptCell T M = record { width = cell.setting.width; lines = cell.lines; marks = parts.waiting cell.paragraph } in
      Some (record b { table = Some (Across picture widths ahead (Some (past_cell row (kept ∷ [])))) })
  cell_added b (Some (Stacked border has_lines)) cell =
      option_map (λ (e : Block P R T M). put_stacked e border has_lines (not (is_empty cell.lines)) cell) (flush b)
  cell_added b _ cell = option_map (λ (e : Block P R T M). put_lines e cell.lines (parts.waiting cell.paragraph)) (flush b)

  -- Block after the end of the given open table's row. A border is drawn below a stacked row that has lines, if borders
  -- are drawn.
  abbrev pub row_ended : Block P R T M → Option (OpenTable R T M) → Option (Block P R T M)
  row_ended b (Some (Across picture widths ahead row)) = Some (record b { table = Some (Across (with_open parts picture row) widths ahead None) })
  row_ended b (Some (Stacked border true)) = option_map (λ (e : Block P R T M). stacked_begun e border) (flush b)
  row_ended b _ = Some b

  -- Block with the lines of another one, each after its prefix. Both are flushed first. None, with overflow off, if a
  -- line passes the width with its prefix.
  abbrev pub append : Block P R T M → Block P R T M → T → List ℕ → List ℕ → Option (Block P R T M)
  append b other tag first later = do
    b ← flush b
    other ← flush (end_table other)
    option_map (λ (ls : List (Line T M)). put_lines b ls (parts.waiting other.paragraph))
        (fitting b.setting.width b.setting.overflow (prefixed (under tag first) (under tag later) other.lines))

  -- ---- The end of a document

  -- Block at its end: flushed, with the waiting marks at the end of the last line. Without lines they keep waiting.
  abbrev pub finish : Block P R T M → Option (Block P R T M)
  finish b = option_map
      (λ (e : Block P R T M).
      if is_empty e.lines then e
      else record e { lines = marked_behind (parts.waiting e.paragraph) e.lines; paragraph = parts.without_waiting e.paragraph })
      (flush (end_table b))

  -- Block with closing lines, if there is a text: a block of lines that are cut at the block's width or left whole.
  abbrev pub add_closing_lines : Block P R T M → (cut : Bool) → T → List (List ℕ) → Option (Block P R T M)
  add_closing_lines b cut tag [] = Some b
  add_closing_lines b cut tag (t ∷ ts) = do
    e ← start_block b
    ls ← closing_lines e.setting cut tag (t ∷ ts)
    Some (add_lines e ls)

  -- Block at the end of a document, with these closing lines.
  abbrev pub end_document : Block P R T M → (cut : Bool) → T → List (List ℕ) → Option (Block P R T M)
  end_document b cut tag texts = finish b >>= λ e. add_closing_lines e cut tag texts

  -- ---- The operations of a layout

  -- Operations of a layout, over these paragraphs and pictures.
  abbrev pub operations : Operations (Block P R T M) T M
  operations = record {
    -- At the end of a block, a blank text does nothing, and any other text starts a block.
    add_inline_text = λ b style cs.
        if length cs == 0 then Some b
        else if not b.at_block_end then Some (feed b (styled style cs))
        else if is_collapsible_text style.mode cs then Some b
        else option_map (λ (e : Block P R T M). feed e (styled style cs)) (start_block b);
    add_mark = λ b m. feed b (mark_items (m ∷ []));
    new_line = flush;
    -- Flushed, with an empty line if that added no line.
    new_line_hard = λ b. option_map (λ (e : Block P R T M). unended (length e.lines == length b.lines) e) (flush b);
    start_block = start_block;
    -- The next text that isn't blank starts another block.
    end_block = λ b. record b { at_block_end = true };
    -- An empty block after a prefix of this width.
    sub_block = λ b tag first later prefix inner. option_map (λ (w : ℕ). inner_block b w) (inner_width b.setting prefix inner);
    append = append;
    -- A table begins on this grid, with borders under this tag if borders are drawn. Its cells are stacked if that is
    -- requested, or if its columns don't fit side by side.
    begin_table = λ b tag borders stacked grid needs. option_map
        (λ (e : Block P R T M). with_table_begun e tag borders (rows_on grid) (if stacked then None else widths_across e.setting.width needs))
        (flush (end_table b));
    -- The next row begins.
    begin_row = λ b. record b { table = option_map with_row_open b.table };
    -- An empty block for the row's next cell. None if the cell is skipped.
    cell_block = λ b. option_map (λ (w : ℕ). inner_block b w) (next_cell_width b.setting.width b.table);
    -- The next cell is this block, flushed. A table that is open in it is ended.
    add_cell = λ b cell. flush (end_table cell) >>= λ c. cell_added b b.table c;
    -- The next cell is skipped.
    skip_cell = λ b. record b { table = option_map skipped b.table };
    end_row = λ b. row_ended b b.table;
    end_table = end_table;
  }
