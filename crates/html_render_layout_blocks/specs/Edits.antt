-- Operations on a block, one after another, with those on the blocks in it.
use Rattle.std.specs.Prelude.{ℕ, Bool, true, List, Option, Some}
use Rattle.std.specs.Option.{option_map_or}
use Rattle.html_render_dom_values.specs.Outcome.{◌>>=◌}
use Rattle.html_render_parts_widths.specs.declared.shares.ColumnNeed.{ColumnNeed}
use Rattle.html_render_parts.specs.TableCells.{CellGrid}
use Rattle.html_render_layout_lines.specs.declared.character.TextStyle.{TextStyle}
use Rattle.html_render_layout_blocks.specs.Ends.{DocumentEnd}
use Rattle.html_render_layout_blocks.specs.Operations.{Operations}

-- A sequence of operations. T are the tags, and marks are numbers. `min_width` is the minimum width of a sub-block. The
-- last argument of each operation is the rest of the sequence.
pub data Edits (T : Type 0) : Type 0 where
  Done : Edits T
  AddText : TextStyle T → (text : List ℕ) → Edits T → Edits T
  AddMark : (mark : ℕ) → Edits T → Edits T
  NewLine : Edits T → Edits T
  NewLineHard : Edits T → Edits T
  StartBlock : Edits T → Edits T
  EndBlock : Edits T → Edits T
  Nest : (prefix min_width : ℕ) → (inside : Edits T) → T → (first later : List ℕ) → Edits T → Edits T  -- a sub-block with its operations, appended
  BeginTable : T → (borders stacked : Bool) → CellGrid → List ColumnNeed → Edits T → Edits T
  BeginRow : Edits T → Edits T
  AddCell : (inside : Edits T) → Edits T → Edits T  -- the next cell, with its operations, unless it is skipped
  EndRow : Edits T → Edits T
  EndTable : Edits T → Edits T
  Finish : Edits T → Edits T
  Close : T → (texts : List (List ℕ)) → Edits T → Edits T  -- closing lines, which are cut

-- Block after a sequence of operations. None if one of them is too narrow.
abbrev pub edited : {B T : Type 0} → Operations B T ℕ → DocumentEnd B T → Edits T → B → Option B
edited o end Done b = Some b
edited o end (AddText style text next) b = o.add_inline_text b style text >>= λ c. edited o end next c
edited o end (AddMark mark next) b = edited o end next (o.add_mark b mark)
edited o end (NewLine next) b = o.new_line b >>= λ c. edited o end next c
edited o end (NewLineHard next) b = o.new_line_hard b >>= λ c. edited o end next c
edited o end (StartBlock next) b = o.start_block b >>= λ c. edited o end next c
edited o end (EndBlock next) b = edited o end next (o.end_block b)
edited o end (Nest prefix min_width inside tag first later next) b =
    o.sub_block b tag first later prefix min_width >>= λ i. edited o end inside i >>= λ c. o.append b c tag first later >>= λ d. edited o end next d
edited o end (BeginTable tag borders stacked grid needs next) b = o.begin_table b tag borders stacked grid needs >>= λ c. edited o end next c
edited o end (BeginRow next) b = edited o end next (o.begin_row b)
edited o end (AddCell inside next) b =
    option_map_or (λ cell. edited o end inside cell >>= λ c. o.add_cell b c >>= λ d. edited o end next d) (o.cell_block b)
    (edited o end next (o.skip_cell b))
edited o end (EndRow next) b = o.end_row b >>= λ c. edited o end next c
edited o end (EndTable next) b = edited o end next (o.end_table b)
edited o end (Finish next) b = end.finish b >>= λ c. edited o end next c
edited o end (Close tag texts next) b = end.add_closing_lines b true tag texts >>= λ c. edited o end next c
