-- A table that is laid out cell by cell in a block of the machine is the table of its finished cells.
use Rattle.std.proofs.Common.{◌≡◌, ℕ, suc, ◌+◌, Bool, true, false, not, cond, ◌||◌, ◌&&◌, ◌==◌, List, [], ◌∷◌, ◌++◌, length, take, drop, find, filter, fold, flat_map, map, slice_index_or}
use Rattle.std.proofs.Common.{Option, Some, None, option_and_then, option_map, refl, sym, ap, ◌∙◌}
use Rattle.std.proofs.lemmas.List.{append-nil, append_assoc}
use Rattle.std.specs.List.{list_any, position_or_len}
use Rattle.html_render_dom_values.specs.Outcome.{◌>>=◌}
use Rattle.html_render_parts_widths.specs.declared.shares.ColumnNeed.{ColumnNeed}
use Rattle.html_render_parts_widths.specs.Shares.{widths_across}
use Rattle.html_render_parts.specs.declared.table.PlacedCell.{PlacedCell}
use Rattle.html_render_parts.specs.TableCells.{CellGrid, rows_on}
use Rattle.html_render_layout_lines.specs.Line.{Line, is_empty, marks_line}
use Rattle.html_render_layout_paragraphs.specs.Paragraph.{Setting, LineBuffer, all_lines}
use Rattle.html_render_layout_paragraphs.specs.Stream.{State, start, finished}
use Rattle.html_render_layout_buffer.specs.Padding.{filled, repeated}
use Rattle.html_render_layout_pictures.specs.declared.borders.TheConstants.{BORDERS}
use Rattle.html_render_layout_pictures.specs.Picture.{KeptCell, TableRow}
use Rattle.html_render_layout_pictures.specs.Drawing as drawing
use Rattle.html_render_layout_pictures.specs.Drawing.{Drawing}
use Rattle.html_render_layout_pictures.specs.laws.Rows.{drawn_is}
use Rattle.html_render_layout_blocks.specs.declared.block.rows.RowPlace.{RowPlace}
use Rattle.html_render_layout_blocks.specs.declared.block.tables.OpenTable.{OpenTable}
use Rattle.html_render_layout_blocks.specs.declared.block.tables.OpenTable.TheVariants.{Across, Stacked}
use Rattle.html_render_layout_blocks.specs.Block.{flush, feed, mark_items, put_lines, add_border, put_stacked, stacked_begun, cell_added}
use Rattle.html_render_layout_blocks.specs.Block.{paragraph_setting, inner_block, with_table_begun, row_ended, end_table, operations}
use Rattle.html_render_layout_blocks.specs.Machine.{machine, MachineBlock}
use Rattle.html_render_layout_blocks.specs.CellByCell.{finished_of, with_finished, added_cell, added_cells, added_row, added_rows, inside_row, added_table}
use Rattle.html_render_layout_blocks.specs.OpenRows.{OpenRow, open_row, next_width, empty_cells, past_cell, whole_row, places}
use Rattle.html_render_layout_blocks.specs.RowSteps.{after_cell, before_cell, empty_cell}
use Rattle.html_render_layout_blocks.specs.laws.NextCells.{after-past, before-past}
use Rattle.html_render_layout_blocks.specs.Tables.{frame_of, with_ahead}
use Rattle.html_render_layout_blocks.specs.WholeTable.{FinishedBlock, empty_finished, TablePlan, table_plan, own_widths, cell_block_width}
use Rattle.html_render_layout_blocks.specs.WholeTable.{kept_cell, kept_cells, table_row, table_rows, with_below, full_line, separated_cells, stacked_row, with_whole_table}
use Rattle.html_render_layout_blocks.specs.laws.BlockMarks.{fed-marks}

-- ---- Operations on a flushed block

-- An open table of the machine, if there is one.
abbrev Opened : Type 0 → Type 0 → Type 0
Opened T M = Option (OpenTable (Drawing T M) T M)

-- Flushed block with these lines and waiting marks and this open table.
abbrev flushed_with : {T M : Type 0} → MachineBlock T M → Setting → FinishedBlock T M → Opened T M → MachineBlock T M
flushed_with b s f table = record b { lines = f.lines; paragraph = Some (start s f.marks); table = table }

filled-none : {T M : Type 0} (padding : Option T) (width : ℕ) → filled {M = M} padding width [] ≡ []
filled-none None width = refl
filled-none (Some tag) width = refl

-- Flushing changes nothing.
flush_is : {T M : Type 0} (b : MachineBlock T M) (s : Setting) (f : FinishedBlock T M) (t : Opened T M) →
    flush machine (flushed_with b s f t) ≡ Some (flushed_with b s f t)
flush_is b s f t =
    ap (λ ls. Some (flushed_with b s (record { lines = f.lines ++ ls; marks = f.marks }) t)) (filled-none b.padding b.setting.width)
    ∙ ap (λ ls. Some (flushed_with b s (record { lines = ls; marks = f.marks }) t)) (append-nil f.lines)

-- Marks that are fed wait.
feed_is : {T M : Type 0} (b : MachineBlock T M) (s : Setting) (f : FinishedBlock T M) (t : Opened T M) (ms : List M) →
    feed machine (flushed_with b s f t) (mark_items ms) ≡ flushed_with b s (record f { marks = f.marks ++ ms }) t
feed_is {T} {M} b s f t ms = ap (λ (p : Option (State T M)). record b { lines = f.lines; paragraph = p; table = t }) (fed-marks s f.marks ms)

put_is : {T M : Type 0} (b : MachineBlock T M) (s : Setting) (a c : FinishedBlock T M) (t : Opened T M) →
    put_lines machine (flushed_with b s a t) c.lines c.marks ≡ flushed_with b s (with_below a c) t
put_is {T} {M} b s a c t = by c.lines
  where
    by : (ls : List (Line T M)) → put_lines machine (flushed_with b s a t) ls c.marks ≡ flushed_with b s (with_below a (record { lines = ls; marks = c.marks })) t
    by [] = feed_is b s a t c.marks
    by (l ∷ ls) = refl

-- Tag of the borders of a stacked table, if they are drawn.
abbrev border_tag : {T : Type 0} → TablePlan T → Option T
border_tag p = cond (p.borders && not (p.block_width == 0)) (Some p.tag) None

border_is : {T M : Type 0} (b : MachineBlock T M) (s : Setting) (p : TablePlan T) (a : FinishedBlock T M) (t : Opened T M) (c : ℕ) →
    p.block_width ≡ b.setting.width →
    add_border machine (flushed_with b s a t) (border_tag p) c ≡ flushed_with b s (fold with_below a (full_line p c)) t
border_is {T} {M} b s p a t c same = by (p.borders && not (p.block_width == 0))
  where
    by : (on : Bool) → add_border machine (flushed_with b s a t) (cond on (Some p.tag) None) c
        ≡ flushed_with b s (fold with_below a (cond on (record { lines = repeated p.tag c p.block_width ∷ []; marks = [] } ∷ []) [])) t
    by true =
        ap (λ w. flushed_with b s (record { lines = a.lines ++ (marks_line a.marks ++ repeated p.tag c w) ∷ []; marks = [] }) t) (sym same)
        ∙ ap (λ l. flushed_with b s (record { lines = a.lines ++ (marks_line a.marks ++ l) ∷ []; marks = [] }) t)
        (sym (append-nil (repeated p.tag c p.block_width)))
    by false = refl

-- Block of a cell with finished lines and marks.
abbrev cell_of : {T M : Type 0} → MachineBlock T M → ℕ → FinishedBlock T M → MachineBlock T M
cell_of b w c = with_finished machine (inner_block machine b w) c

cell_flushed : {T M : Type 0} (b : MachineBlock T M) (w : ℕ) (c : FinishedBlock T M) → flush machine (cell_of b w c) ≡ Some (cell_of b w c)
cell_flushed b w c = flush_is (inner_block machine b w) (paragraph_setting (record b.setting { width = w })) c None

-- ---- Stacked

fold-append : {T M : Type 0} (b : FinishedBlock T M) (xs ys : List (FinishedBlock T M)) →
    fold with_below b (xs ++ ys) ≡ fold with_below (fold with_below b xs) ys
fold-append b [] ys = refl
fold-append b (x ∷ xs) ys = fold-append (with_below b x) xs ys

-- Whether a cell has lines.
abbrev some : {T M : Type 0} → FinishedBlock T M → Bool
some c = not (is_empty c.lines)

or-assoc : (x y z : Bool) → ((x || y) || z) ≡ (x || (y || z))
or-assoc true y z = refl
or-assoc false y z = refl

module _ {T M : Type 0} (b : MachineBlock T M) (s : Setting) (p : TablePlan T) (same : p.block_width ≡ b.setting.width) where
  -- Block with an open stacked table, whose row has lines or not.
  abbrev stack : FinishedBlock T M → Bool → MachineBlock T M
  stack a has = flushed_with b s a (Some (Stacked (border_tag p) has))

  slashes_are : (a : FinishedBlock T M) (has on : Bool) → cond on (add_border machine (stack a has) (border_tag p) BORDERS.slash) (stack a has)
      ≡ stack (fold with_below a (cond on (full_line p BORDERS.slash) [])) has
  slashes_are a has true = border_is b s p a (Some (Stacked (border_tag p) has)) BORDERS.slash same
  slashes_are a has false = refl

  cell_stacked : (a : FinishedBlock T M) (has : Bool) (c : FinishedBlock T M) →
      added_cell machine (stack a has) c (Some (inner_block machine b b.setting.width))
      ≡ Some (stack (with_below (fold with_below a (cond (has && some c) (full_line p BORDERS.slash) [])) c) (has || some c))
  cell_stacked a has c =
      let cell = cell_of b b.setting.width c in
      let t : Opened T M = Some (Stacked (border_tag p) (has || some c)) in
      let above = fold with_below a (cond (has && some c) (full_line p BORDERS.slash) []) in
      ap (λ o. o >>= λ e. cell_added machine (stack a has) (Some (Stacked (border_tag p) has)) e) (cell_flushed b b.setting.width c)
      ∙ ap (option_map (λ e. put_stacked machine e (border_tag p) has (some c) cell)) (flush_is b s a (Some (Stacked (border_tag p) has)))
      ∙ ap (λ e. Some (record (put_lines machine e c.lines c.marks) { table = t })) (slashes_are a has (has && some c))
      ∙ ap (λ (e : MachineBlock T M). Some (record e { table = t })) (put_is b s above c (Some (Stacked (border_tag p) has)))

  cells_stacked : (a : FinishedBlock T M) (has : Bool) (cs : List (FinishedBlock T M)) →
      added_cells machine (stack a has) cs ≡ Some (stack (fold with_below a (separated_cells p has cs)) (has || list_any some cs))
  cells_stacked a true [] = refl
  cells_stacked a false [] = refl
  cells_stacked a has (c ∷ cs) =
      let slashes = cond (has && some c) (full_line p BORDERS.slash) [] in
      ap (λ o. o >>= λ e. added_cells machine e cs) (cell_stacked a has c)
      ∙ cells_stacked (with_below (fold with_below a slashes) c) (has || some c) cs
      ∙ ap (λ e. Some (stack e ((has || some c) || list_any some cs))) (sym (fold-append a slashes (c ∷ separated_cells p (has || some c) cs)))
      ∙ ap (λ h. Some (stack (fold with_below a (separated_cells p has (c ∷ cs))) h)) (or-assoc has (some c) (list_any some cs))

  row_stacked : (a : FinishedBlock T M) (has : Bool) → row_ended machine (stack a has) (Some (Stacked (border_tag p) has))
      ≡ Some (stack (fold with_below a (cond has (full_line p BORDERS.line) [])) false)
  row_stacked a true =
      ap (option_map (λ e. stacked_begun machine e (border_tag p))) (flush_is b s a (Some (Stacked (border_tag p) true)))
      ∙ ap (λ (e : MachineBlock T M). Some (record e { table = Some (Stacked (border_tag p) false) }))
      (border_is b s p a (Some (Stacked (border_tag p) true)) BORDERS.line same)
  row_stacked a false = refl

  one_row_stacked : (a : FinishedBlock T M) (has : Bool) (r : List (FinishedBlock T M)) →
      added_row machine (stack a has) r ≡ Some (stack (fold with_below a (stacked_row p r)) false)
  one_row_stacked a has r =
      let cells = separated_cells p false r in
      let line = cond (list_any some r) (full_line p BORDERS.line) [] in
      ap (λ o. o >>= λ (e : MachineBlock T M). row_ended machine e e.table) (cells_stacked a false r)
      ∙ row_stacked (fold with_below a cells) (list_any some r)
      ∙ ap (λ e. Some (stack e false)) (sym (fold-append a cells line))

  rows_stacked : (a : FinishedBlock T M) (has : Bool) (rows : List (List (FinishedBlock T M))) →
      option_map (end_table machine) (added_rows machine (stack a has) rows) ≡ Some (flushed_with b s (fold with_below a (flat_map (stacked_row p) rows)) None)
  rows_stacked a has [] = refl
  rows_stacked a has (r ∷ rs) =
      ap (λ o. option_map (end_table machine) (o >>= λ e. added_rows machine e rs)) (one_row_stacked a has r)
      ∙ rows_stacked (fold with_below a (stacked_row p r)) false rs
      ∙ ap (λ e. Some (flushed_with b s e None)) (sym (fold-append a (stacked_row p r) (flat_map (stacked_row p) rs)))

  -- The next cell is as wide as the block.
  width_stacked : (a : FinishedBlock T M) (has : Bool) (rows : List (List (FinishedBlock T M))) (cells : List (FinishedBlock T M)) →
      option_map (operations machine).cell_block (inside_row machine (stack a has) rows cells) ≡ Some (Some (inner_block machine b b.setting.width))
  width_stacked a has [] cells = ap (option_map (operations machine).cell_block) (cells_stacked a false cells)
  width_stacked a has (r ∷ rs) cells =
      ap (λ o. option_map (operations machine).cell_block ((o >>= λ e. added_rows machine e rs)
      >>= λ e. added_cells machine ((operations machine).begin_row e) cells)) (one_row_stacked a has r)
      ∙ width_stacked (fold with_below a (stacked_row p r)) false rs cells

-- ---- Side by side

kept-empty : {T M : Type 0} (width : Option ℕ) → kept_cell {T = T} {M = M} width empty_finished ≡ empty_cell width
kept-empty None = refl
kept-empty (Some w) = refl

kept-none : {T M : Type 0} (ps : List RowPlace) → kept_cells {T = T} {M = M} ps [] ≡ empty_cells ps
kept-none [] = refl
kept-none {T} {M} (p ∷ ps) = elim p.is_cell as (λ b. cond b (kept_cell {T = T} {M = M} p.width empty_finished ++ kept_cells ps [])
    (empty_cell p.width ++ kept_cells ps []) ≡ empty_cell p.width ++ empty_cells ps) [
      | true ↦
          ap (λ k. k ++ kept_cells {T = T} {M = M} ps []) (kept-empty p.width) ∙ ap (λ cs. empty_cell p.width ++ cs) (kept-none ps)
      | false ↦ ap (λ cs. empty_cell p.width ++ cs) (kept-none ps)
    ]

-- Number of places before the next cell, in a place that may have one and others.
abbrev to_cell : (stands : Bool) → List RowPlace → ℕ
to_cell stands ps = cond (not stands) (1 + position_or_len (λ (p : RowPlace). p.is_cell) ps) 0

-- Columns of the next cell, in a place that may have one and others.
abbrev width_to : (stands : Bool) → RowPlace → List RowPlace → Option ℕ
width_to stands p ps = option_and_then (λ (q : RowPlace). q.width) (cond stands (Some p) (find (λ (q : RowPlace). q.is_cell) ps))

kept-next : {T M : Type 0} (ps : List RowPlace) (c : FinishedBlock T M) (cs : List (FinishedBlock T M)) →
    kept_cells ps (c ∷ cs) ≡ empty_cells (before_cell ps) ++ (kept_cell (next_width ps) c ++ kept_cells (after_cell ps) cs)
kept-next [] c cs = refl
kept-next {T} {M} (p ∷ ps) c cs = elim p.is_cell as (λ b.
    cond b (kept_cell p.width c ++ kept_cells ps cs) (empty_cell p.width ++ kept_cells ps (c ∷ cs))
    ≡ empty_cells (take (to_cell b ps) (p ∷ ps)) ++ (kept_cell (width_to b p ps) c ++ kept_cells (drop (to_cell b ps + 1) (p ∷ ps)) cs)) [
      | true ↦ refl
      | false ↦
          ap (λ ks. empty_cell p.width ++ ks) (kept-next ps c cs)
          ∙ sym (append_assoc (empty_cell p.width) (empty_cells (before_cell ps)) (kept_cell (next_width ps) c ++ kept_cells (after_cell ps) cs))
          ∙ sym (ap (λ qs. empty_cells qs ++ (kept_cell (next_width ps) c ++ kept_cells (after_cell ps) cs)) (before-past p ps))
          ∙ sym (ap (λ qs. empty_cells (take (to_cell false ps) (p ∷ ps)) ++ (kept_cell (next_width ps) c ++ kept_cells qs cs)) (after-past p ps))
    ]

widths-next : (ps : List RowPlace) → next_width ps ≡ slice_index_or (own_widths ps) 0 None
widths-next [] = refl
widths-next (p ∷ ps) = elim p.is_cell as (λ b. width_to b p ps
    ≡ slice_index_or (map (λ (q : RowPlace). q.width) (cond b (p ∷ filter (λ (q : RowPlace). q.is_cell) ps) (filter (λ (q : RowPlace). q.is_cell) ps))) 0 None) [
      | true ↦ refl
      | false ↦ widths-next ps
    ]

widths-after : (ps : List RowPlace) → own_widths (after_cell ps) ≡ drop 1 (own_widths ps)
widths-after [] = refl
widths-after (p ∷ ps) = elim p.is_cell as (λ b. own_widths (drop (to_cell b ps + 1) (p ∷ ps))
    ≡ drop 1 (map (λ (q : RowPlace). q.width) (cond b (p ∷ filter (λ (q : RowPlace). q.is_cell) ps) (filter (λ (q : RowPlace). q.is_cell) ps)))) [
      | true ↦ refl
      | false ↦ ap own_widths (after-past p ps) ∙ widths-after ps
    ]

-- Open row after its next cell.
abbrev past : {T M : Type 0} → OpenRow T M → FinishedBlock T M → OpenRow T M
past r c = past_cell r (kept_cell (next_width r.ahead) c)

index-drop : {A : Type 0} (xs : List A) (n : ℕ) (a : A) → slice_index_or (drop 1 xs) n a ≡ slice_index_or xs (suc n) a
index-drop [] n a = refl
index-drop (x ∷ xs) n a = refl

-- After some cells of a row, the next one has the width of this number.
widths-at : {T M : Type 0} (r : OpenRow T M) (cs : List (FinishedBlock T M)) →
    next_width (fold past r cs).ahead ≡ slice_index_or (own_widths r.ahead) (length cs) None
widths-at r [] = widths-next r.ahead
widths-at r (c ∷ cs) =
    widths-at (past r c) cs
    ∙ ap (λ ws. slice_index_or ws (length cs) None) (widths-after r.ahead)
    ∙ index-drop (own_widths r.ahead) (length cs) None

row_is : {T M : Type 0} (r : OpenRow T M) (cs : List (FinishedBlock T M)) →
    whole_row (fold past r cs) ≡ record { cells = r.cells ++ kept_cells r.ahead cs; has_placeholder = r.placeholder }
row_is {T} {M} r [] = ap (λ ks. record { cells = r.cells ++ ks; has_placeholder = r.placeholder }) (sym (kept-none {T = T} {M = M} r.ahead))
row_is {T} {M} r (c ∷ cs) =
    let e : List (KeptCell T M) = empty_cells (before_cell r.ahead) in
    let k = kept_cell (next_width r.ahead) c in
    let rest = kept_cells (after_cell r.ahead) cs in
    row_is (past r c) cs
    ∙ ap (λ (ks : List (KeptCell T M)). record { cells = ks; has_placeholder = r.placeholder })
    (append_assoc (r.cells ++ e) k rest ∙ append_assoc r.cells e (k ++ rest) ∙ ap (λ ks. r.cells ++ ks) (sym (kept-next r.ahead c cs)))

-- A row without places changes nothing.
no_places : {T M : Type 0} (w : List ℕ) (d : Drawing T M) (r : List (FinishedBlock T M)) → drawing.with_row d (table_row w [] r) ≡ d
no_places w d r = ap (λ ms. record d { waiting = ms }) (append-nil d.waiting)

rows_ahead : {T M : Type 0} (w : List ℕ) (d : Drawing T M) (ahead : List (List PlacedCell)) →
    with_ahead machine w ahead d ≡ drawing.with_rows d (table_rows w ahead [])
rows_ahead w d [] = refl
rows_ahead {T} {M} w d (p ∷ ps) =
    rows_ahead w (drawing.with_row d (whole_row (open_row w p))) ps
    ∙ ap (λ (r : TableRow T M). drawing.with_rows (drawing.with_row d r) (table_rows w ps [])) (row_is (open_row w p) [])

module _ {T M : Type 0} (b : MachineBlock T M) (s : Setting) (w : List ℕ) (lines : List (Line T M)) where
  -- Block with an open table of cells side by side.
  abbrev table_at : Drawing T M → List (List PlacedCell) → Option (OpenRow T M) → MachineBlock T M
  table_at d ahead row = flushed_with b s (record { lines = lines; marks = [] }) (Some (Across d w ahead row))

  cell_across : (d : Drawing T M) (ahead : List (List PlacedCell)) (r : OpenRow T M) (c : FinishedBlock T M) (width : Option ℕ) →
      added_cell machine (table_at d ahead (Some r)) c (option_map (λ n. inner_block machine b n) width)
      ≡ Some (table_at d ahead (Some (past_cell r (kept_cell width c))))
  cell_across d ahead r c None = refl
  cell_across d ahead r c (Some n) =
      ap (λ o. o >>= λ e. cell_added machine (table_at d ahead (Some r)) (Some (Across d w ahead (Some r))) e) (cell_flushed b n c)

  cells_across : (d : Drawing T M) (ahead : List (List PlacedCell)) (r : OpenRow T M) (cs : List (FinishedBlock T M)) →
      added_cells machine (table_at d ahead (Some r)) cs ≡ Some (table_at d ahead (Some (fold past r cs)))
  cells_across d ahead r [] = refl
  cells_across d ahead r (c ∷ cs) =
      ap (λ o. o >>= λ e. added_cells machine e cs) (cell_across d ahead r c (next_width r.ahead)) ∙ cells_across d ahead (past r c) cs

  row_across : (d : Drawing T M) (ahead : List (List PlacedCell)) (cs : List (FinishedBlock T M)) →
      added_row machine (table_at d ahead None) cs
      ≡ Some (table_at (drawing.with_row d (table_row w (slice_index_or ahead 0 []) cs)) (drop 1 ahead) None)
  row_across d ahead cs =
      let p = slice_index_or ahead 0 [] in
      ap (λ o. o >>= λ (e : MachineBlock T M). row_ended machine e e.table) (cells_across d (drop 1 ahead) (open_row w p) cs)
      ∙ ap (λ (r : TableRow T M). Some (table_at (drawing.with_row d r) (drop 1 ahead) None)) (row_is (open_row w p) cs)

  abbrev ended_with : Drawing T M → Option (MachineBlock T M)
  ended_with d = Some (flushed_with b s (record { lines = lines ++ (drawing.finished d).0; marks = (drawing.finished d).1 }) None)

  rows_across : (d : Drawing T M) (ahead : List (List PlacedCell)) (rows : List (List (FinishedBlock T M))) →
      option_map (end_table machine) (added_rows machine (table_at d ahead None) rows) ≡ ended_with (drawing.with_rows d (table_rows w ahead rows))
  rows_across d ahead [] =
      let p = drawing.finished (with_ahead machine w ahead d) in
      ap (λ e. Some e) (feed_is b s (record { lines = lines ++ p.0; marks = [] }) None p.1) ∙ ap ended_with (rows_ahead w d ahead)
  rows_across d [] (r ∷ rs) =
      ap (λ o. option_map (end_table machine) (o >>= λ e. added_rows machine e rs)) (row_across d [] r)
      ∙ ap (λ e. option_map (end_table machine) (added_rows machine (table_at e [] None) rs)) (no_places w d r)
      ∙ rows_across d [] rs
  rows_across d (p ∷ ps) (r ∷ rs) =
      ap (λ o. option_map (end_table machine) (o >>= λ e. added_rows machine e rs)) (row_across d (p ∷ ps) r)
      ∙ rows_across (drawing.with_row d (table_row w p r)) ps rs

  -- The next cell has the width of its own number in the row of its number.
  width_across : (d : Drawing T M) (ahead : List (List PlacedCell)) (rows : List (List (FinishedBlock T M))) (cells : List (FinishedBlock T M)) →
      option_map (operations machine).cell_block (inside_row machine (table_at d ahead None) rows cells)
      ≡ Some (option_map (λ n. inner_block machine b n) (slice_index_or (own_widths (places w (slice_index_or ahead (length rows) []))) (length cells) None))
  width_across d ahead [] cells =
      let r = open_row w (slice_index_or ahead 0 []) in
      ap (option_map (operations machine).cell_block) (cells_across d (drop 1 ahead) r cells)
      ∙ ap (λ o. Some (option_map (λ n. inner_block machine b n) o)) (widths-at r cells)
  width_across d ahead (r ∷ rs) cells =
      ap (λ o. option_map (operations machine).cell_block ((o >>= λ e. added_rows machine e rs)
      >>= λ e. added_cells machine ((operations machine).begin_row e) cells)) (row_across d ahead r)
      ∙ width_across (drawing.with_row d (table_row w (slice_index_or ahead 0 []) r)) (drop 1 ahead) rs cells
      ∙ ap (λ ps. Some (option_map (λ n. inner_block machine b n) (slice_index_or (own_widths (places w ps)) (length cells) None)))
      (index-drop ahead (length rs) [])

-- ---- The laws

abbrev plan_with : {T : Type 0} → T → (borders : Bool) → CellGrid → (width : ℕ) → Option (List ℕ) → TablePlan T
plan_with tag borders grid width columns =
    record { tag = tag; borders = borders; block_width = width; columns = columns; rows = rows_on grid }

module _ {T M : Type 0} (tag : T) (borders : Bool) (grid : CellGrid) where
  abbrev begun_with : MachineBlock T M → Option (List ℕ) → MachineBlock T M
  begun_with b columns = with_table_begun machine b tag borders (rows_on grid) columns

  -- Block in which a stacked table begins.
  begun_stacked : (b : MachineBlock T M) (s : Setting) (f : FinishedBlock T M) (t : Opened T M) →
      let p = plan_with tag borders grid b.setting.width None in
      begun_with (flushed_with b s f t) None ≡ stack b s p refl (fold with_below f (full_line p BORDERS.line)) false
  begun_stacked b s f t =
      let p = plan_with tag borders grid b.setting.width None in
      ap (λ (e : MachineBlock T M). record e { table = Some (Stacked (border_tag p) false) }) (border_is b s p f t BORDERS.line refl)

  flushed_is : (b : MachineBlock T M) (s : Setting) (f : FinishedBlock T M) (t : Opened T M) (columns : Option (List ℕ)) (rows : List (List (FinishedBlock T M))) →
      option_map (end_table machine) (added_rows machine (begun_with (flushed_with b s f t) columns) rows)
      ≡ Some (flushed_with b s (with_whole_table (plan_with tag borders grid b.setting.width columns) rows f) None)
  flushed_is b s f t None rows =
      let p = plan_with tag borders grid b.setting.width None in
      let top = full_line p BORDERS.line in
      ap (λ e. option_map (end_table machine) (added_rows machine e rows)) (begun_stacked b s f t)
      ∙ rows_stacked b s p refl (fold with_below f top) false rows
      ∙ ap (λ e. Some (flushed_with b s e None)) (sym (fold-append f top (flat_map (stacked_row p) rows)))
  flushed_is b s f t (Some columns) rows =
      rows_across b s columns f.lines (drawing.begun (frame_of tag borders columns) f.marks) (rows_on grid) rows
      ∙ ap (λ (x : List (Line T M) × List M). Some (flushed_with b s (record { lines = f.lines ++ x.0; marks = x.1 }) None))
      (drawn_is (frame_of tag borders columns) f.marks (table_rows columns (rows_on grid) rows))

  width_is : (b : MachineBlock T M) (s : Setting) (f : FinishedBlock T M) (t : Opened T M) (columns : Option (List ℕ)) (rows : List (List (FinishedBlock T M)))
      (cells : List (FinishedBlock T M)) →
      option_map (operations machine).cell_block (inside_row machine (begun_with (flushed_with b s f t) columns) rows cells)
      ≡ Some (option_map (λ n. inner_block machine b n) (cell_block_width (plan_with tag borders grid b.setting.width columns) (length rows) (length cells)))
  width_is b s f t None rows cells =
      let p = plan_with tag borders grid b.setting.width None in
      ap (λ e. option_map (operations machine).cell_block (inside_row machine e rows cells)) (begun_stacked b s f t)
      ∙ width_stacked b s p refl (fold with_below f (full_line p BORDERS.line)) false rows cells
  width_is b s f t (Some columns) rows cells =
      width_across b s columns f.lines (drawing.begun (frame_of tag borders columns) f.marks) (rows_on grid) rows cells

-- What holds of None and of each flushed block holds of a block after a flush.
flush-elim : {T M : Type 0} (d : MachineBlock T M) (P : Option (MachineBlock T M) → Type 0) → P None →
    ((s : Setting) (f : FinishedBlock T M) (t : Opened T M) → P (Some (flushed_with d s f t))) → P (flush machine d)
flush-elim {T} {M} d P none flushed = by d.paragraph
  where
    then : (q : State T M) (o : Option (LineBuffer T M)) → P (option_map (λ (g : LineBuffer T M). record d {
      lines = d.lines ++ filled d.padding d.setting.width (all_lines g);
      paragraph = Some (start q.setting g.waiting);
    }) o)
    then q None = none
    then q (Some g) = flushed q.setting (record { lines = d.lines ++ filled d.padding d.setting.width (all_lines g); marks = g.waiting }) d.table

    by : (p : Option (State T M)) → P (option_map (λ (g : LineBuffer T M). record d {
      lines = d.lines ++ filled d.padding d.setting.width (all_lines g);
      paragraph = machine.next p g.waiting;
    }) (machine.finish p))
    by None = none
    by (Some q) = then q (finished q)

module _ {T M : Type 0} (b : MachineBlock T M) (tag : T) (borders stacked : Bool) (grid : CellGrid) (needs : List ColumnNeed) where
  abbrev columns_in : MachineBlock T M → Option (List ℕ)
  columns_in e = cond stacked None (widths_across e.setting.width needs)

  abbrev begun_in : MachineBlock T M → MachineBlock T M
  begun_in e = with_table_begun machine e tag borders (rows_on grid) (columns_in e)

  abbrev plan_in : MachineBlock T M → TablePlan T
  plan_in e = table_plan e.setting.width tag borders stacked grid needs

  -- THE LAW: a table that is laid out cell by cell is the table of its finished cells.
  pub whole_table : (rows : List (List (FinishedBlock T M))) → added_table machine b tag borders stacked grid needs rows
      ≡ option_map (λ (e : MachineBlock T M). with_finished machine e (with_whole_table (plan_in e) rows (finished_of machine e)))
      (flush machine (end_table machine b))
  whole_table rows =
      let d = end_table machine b in
      flush-elim d (λ o. (option_map begun_in o >>= λ c. option_map (end_table machine) (added_rows machine c rows))
      ≡ option_map (λ (e : MachineBlock T M). with_finished machine e (with_whole_table (plan_in e) rows (finished_of machine e))) o)
      refl (λ s f t. flushed_is tag borders grid d s f t (columns_in d) rows)

  -- THE LAW: the block of each cell has the width that the plan says.
  pub cell_widths : (rows : List (List (FinishedBlock T M))) (cells : List (FinishedBlock T M)) →
      ((operations machine).begin_table b tag borders stacked grid needs >>= λ c. option_map (operations machine).cell_block (inside_row machine c rows cells))
      ≡ option_map (λ (e : MachineBlock T M). option_map (inner_block machine e) (cell_block_width (plan_in e) (length rows) (length cells)))
      (flush machine (end_table machine b))
  cell_widths rows cells =
      let d = end_table machine b in
      flush-elim d (λ o. (option_map begun_in o >>= λ c. option_map (operations machine).cell_block (inside_row machine c rows cells))
      ≡ option_map (λ (e : MachineBlock T M). option_map (inner_block machine e) (cell_block_width (plan_in e) (length rows) (length cells))) o)
      refl (λ s f t. width_is tag borders grid d s f t (columns_in d) rows cells)

module _ {T M : Type 0} (b : MachineBlock T M) where
  reads_of : (o : Opened T M) (c : MachineBlock T M) →
      cell_added machine b o c ≡ cell_added machine b o (cell_of b c.setting.width (finished_of machine c))
  reads_of None c = refl
  reads_of (Some (Across d w ahead None)) c = refl
  reads_of (Some (Across d w ahead (Some row))) c = refl
  reads_of (Some (Stacked border has)) c = refl

  -- THE LAW: of a cell's block, its width, lines and waiting marks are used.
  pub cell_used : (cell : MachineBlock T M) → (operations machine).add_cell b cell
      ≡ (flush machine (end_table machine cell)
      >>= λ c. (operations machine).add_cell b (with_finished machine (inner_block machine b c.setting.width) (finished_of machine c)))
  cell_used cell = by (flush machine (end_table machine cell))
    where
      by : (o : Option (MachineBlock T M)) → (o >>= λ c. cell_added machine b b.table c)
          ≡ (o >>= λ c. (operations machine).add_cell b (cell_of b c.setting.width (finished_of machine c)))
      by None = refl
      by (Some c) =
          let f = finished_of machine c in
          reads_of b.table c ∙ sym (ap (λ o. o >>= λ k. cell_added machine b b.table k) (cell_flushed b c.setting.width f))
