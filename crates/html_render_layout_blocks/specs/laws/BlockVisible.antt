-- No operation on blocks loses a visible character, nor does the end of a document.
use Rattle.std.proofs.Common.{◌≡◌, ℕ, ◌+◌, ◌≤◌, Bool, true, false, not, cond, eqb, ◌||◌, ◌&&◌, List, [], ◌∷◌, ◌++◌, length, Option, Some, None}
use Rattle.std.proofs.Common.{refl, ap, ◌∙◌, arith, append-nil, IfSome, map, flat_map, option_map, leb, ◌==◌}
use Rattle.std.specs.Char.{is_whitespace}
use Rattle.std.specs.List.{list_all}
use Rattle.std.proofs.lemmas.Bool.{eqb-true, and_parts}
use Rattle.std.proofs.lemmas.List.Concat.{flat_map-append}
use Rattle.std.proofs.lemmas.Option.{IfSome_then}
use Rattle.html_render_layout_pictures.specs.declared.borders.TheConstants.{BORDERS}
use Rattle.html_render_dom_values.specs.declared.white_space.WhiteSpace.{WhiteSpace}
use Rattle.html_render_dom_values.specs.declared.white_space.WhiteSpace.TheVariants.{Normal, Pre, PreWrap}
use Rattle.html_render_layout_lines.specs.declared.character.Item.{Item}
use Rattle.html_render_layout_lines.specs.declared.character.Item.TheVariants.{Character, Mark}
use Rattle.html_render_layout_lines.specs.declared.character.TextStyle.{TextStyle}
use Rattle.html_render_layout_lines.specs.Character.{is_collapsible, has_no_width}
use Rattle.html_render_layout_lines.specs.Line.{Line, columns, is_empty}
use Rattle.html_render_layout_paragraphs.specs.Paragraph.{LineBuffer, paragraph, all_lines}
use Rattle.html_render_layout_paragraphs.specs.Stream.{styled}
use Rattle.html_render_layout_lines.specs.TaggedText.{under}
use Rattle.html_render_layout_lines.specs.Visible.{is_visible, if_visible, visible_in_items, visible_in_line, visible_in_lines}
use Rattle.html_render_layout_lines.specs.laws.Cases.{bind_some, map_if, if_cases}
use Rattle.html_render_layout_paragraphs.specs.laws.Visible.{paragraph_keeps}
use Rattle.html_render_layout_lines.specs.laws.Visible.{visible_in_line-append}
use Rattle.html_render_layout_blocks.specs.laws.Operations.{Counts}
use Rattle.html_render_layout_pictures.specs.laws.Padding.{filled-visible}
use Rattle.html_render_layout_pictures.specs.laws.Lines.{marked_behind_same, count-append}
use Rattle.html_render_layout_buffer.specs.Padding.{filled, repeated}
use Rattle.html_render_layout_buffer.specs.Prefixed.{prefixed}
use Rattle.html_render_layout_blocks.specs.Closing.{closing_lines}
use Rattle.html_render_layout_buffer.specs.Marked.{marked_behind, marked_before}
use Rattle.html_render_layout_blocks.specs.Block.{flush, add_lines, unended, start_block, feed, is_collapsible_text, mark_items, finish, add_closing_lines}
use Rattle.html_render_layout_blocks.specs.Block.{put_lines, append, end_open, end_table, add_border, with_table_begun}
use Rattle.html_render_layout_blocks.specs.Block.{put_stacked, cell_added, row_ended, operations as operations_of}
use Rattle.html_render_layout_blocks.specs.Definition.{definition, DefinedBlock, operations}
use Rattle.html_render_layout_blocks.specs.declared.block.tables.OpenTable.{OpenTable}
use Rattle.html_render_layout_blocks.specs.declared.block.tables.OpenTable.TheVariants.{Across, Stacked}
use Rattle.html_render_layout_blocks.specs.declared.block.rows.RowPlace.{RowPlace}
use Rattle.html_render_layout_blocks.specs.OpenRows.{OpenRow, open_row, empty_cells, past_cell, whole_row}
use Rattle.html_render_layout_blocks.specs.RowSteps.{before_cell, empty_cell}
use Rattle.html_render_layout_blocks.specs.Tables.{Rows, with_row_open, skipped, with_open, with_ahead}
use Rattle.html_render_parts.specs.declared.table.PlacedCell.{PlacedCell}
use Rattle.html_render_parts.specs.TableCells.{rows_on}
use Rattle.html_render_parts_widths.specs.Shares.{widths_across}
use Rattle.html_render_layout_pictures.specs.Picture.{KeptCell, TableRow, picture_lines}
use Rattle.html_render_layout_pictures.specs.laws.Visible.{marked_before_same, picture_times}
use Rattle.html_render_layout_blocks.specs.Visible.{visible_in_text}
use Rattle.html_render_layout_pictures.specs.Visible.{count, visible_in_cells, visible_in_rows}

pub any : {A : Type 0} (o : Option A) → IfSome o (λ a. Unit {0})
any None = tt
any (Some a) = tt

-- Number of times that a character is visible in a text.
abbrev pub text_count : ℕ → List ℕ → ℕ
text_count c cs = count c (visible_in_text cs)

-- Number of times that a character is visible in a block's lines, and in all that was fed to its paragraph.
abbrev fed_count : {T M : Type 0} → ℕ → DefinedBlock T M → ℕ
fed_count c d = count c (visible_in_lines d.lines) + count c (visible_in_items d.paragraph.items)

-- Number of times that a character is visible in the kept cells of an open row, if there is one.
abbrev row_count : {T M : Type 0} → ℕ → Option (OpenRow T M) → ℕ
row_count c None = 0
row_count c (Some row) = count c (visible_in_cells row.cells)

-- Number of times that a character is visible in an open table: in its rows so far and in its open row. The cells of a
-- stacked table are in the block.
abbrev table_count : {T M : Type 0} → ℕ → Option (OpenTable (Rows T M) T M) → ℕ
table_count c None = 0
table_count c (Some (Across p widths ahead row)) = count c (visible_in_rows p.rows) + row_count c row
table_count c (Some (Stacked border has_lines)) = 0

-- Number of times that a character is visible in a block and in its open table.
abbrev pub visible_count : {T M : Type 0} → ℕ → DefinedBlock T M → ℕ
visible_count c d = fed_count c d + table_count c d.table

-- ---- Lists

parts_count : {X : Type 0} (c : ℕ) (f : X → List ℕ) (xs ys : List X) →
    count c (flat_map f (xs ++ ys)) ≡ count c (flat_map f xs) + count c (flat_map f ys)
parts_count c f xs ys = ap (count c) (flat_map-append f xs ys) ∙ count-append c (flat_map f xs) (flat_map f ys)

lines_count : {T M : Type 0} (c : ℕ) (a b : List (Line T M)) →
    count c (visible_in_lines (a ++ b)) ≡ count c (visible_in_lines a) + count c (visible_in_lines b)
lines_count {T} {M} c a b = parts_count c (λ (l : Line T M). visible_in_line l) a b

cells_count : {T M : Type 0} (c : ℕ) (a b : List (KeptCell T M)) →
    count c (visible_in_cells (a ++ b)) ≡ count c (visible_in_cells a) + count c (visible_in_cells b)
cells_count {T} {M} c a b = parts_count c (λ (k : KeptCell T M). visible_in_lines k.lines) a b

items_count : {T M : Type 0} (c : ℕ) (xs ys : List (Item T M)) →
    count c (visible_in_items (xs ++ ys)) ≡ count c (visible_in_items xs) + count c (visible_in_items ys)
items_count c [] ys = omega arith
items_count c (Character x ∷ xs) ys =
    omega (
      arith,
      items_count c xs ys,
      count-append c (if_visible x.code) (visible_in_items xs),
      count-append c (if_visible x.code) (visible_in_items (xs ++ ys)),
    )
items_count c (Mark m ∷ xs) ys = items_count c xs ys

items-styled : {T : Type 0} (M : Type 0) (style : TextStyle T) (cs : List ℕ) → visible_in_items (styled {M = M} style cs) ≡ visible_in_text cs
items-styled M style [] = refl
items-styled M style (c ∷ cs) = ap (λ r. if_visible c ++ r) (items-styled M style cs)

items-marks : (T : Type 0) {M : Type 0} (ms : List M) → visible_in_items (mark_items {T = T} ms) ≡ []
items-marks T [] = refl
items-marks T (m ∷ ms) = items-marks T ms

-- ---- Flushed blocks

-- Whether the character c is visible in the block e at least n more times than in the block d, and both have the same
-- table.
abbrev Adds : {T M : Type 0} → (c n : ℕ) → DefinedBlock T M → DefinedBlock T M → Type 0
Adds c n d e = (fed_count c d + n ≤ fed_count c e) × (e.table ≡ d.table)

-- Whether the character c is visible in the block e and its table at least n more times than in the block d.
abbrev Gains : {T M : Type 0} → (c n : ℕ) → DefinedBlock T M → DefinedBlock T M → Type 0
Gains c n d e = visible_count c d + n ≤ visible_count c e

gains : {T M : Type 0} (c n : ℕ) (d e : DefinedBlock T M) → Adds c n d e → Gains c n d e
gains c n d e k = omega (arith, k.0, ap (table_count c) k.1)

-- Whether the block e shows what the block d shows, with the same table and an empty paragraph.
abbrev Keeps : {T M : Type 0} → ℕ → DefinedBlock T M → DefinedBlock T M → Type 0
Keeps c d e = Adds c 0 d e × (e.paragraph.items ≡ [])

flush_keeps : {T M : Type 0} (c : ℕ) (d : DefinedBlock T M) → IfSome (flush definition d) (Keeps c d)
flush_keeps {T} {M} c d =
    let q = d.paragraph in
    map_if (λ (p : LineBuffer T M). visible_in_lines (all_lines p) ≡ visible_in_items q.items) (Keeps c d) _
    (paragraph q.setting q.waiting q.items) (paragraph_keeps q.setting q.waiting q.items) (λ p h. (
      (
        omega (
          arith,
          lines_count c d.lines (filled d.padding d.setting.width (all_lines p)),
          ap (count c) (filled-visible d.padding d.setting.width (all_lines p) ∙ h),
        ),
        refl,
      ),
      refl,
    ))

marks_add : {T M : Type 0} (c : ℕ) (d : DefinedBlock T M) (ms : List M) → Adds c 0 d (feed definition d (mark_items ms))
marks_add {T} {M} c d ms =
    (omega (arith, items_count c d.paragraph.items (mark_items ms), ap (count c) (items-marks T ms)), refl)

text_adds : {T M : Type 0} (c : ℕ) (d : DefinedBlock T M) (style : TextStyle T) (cs : List ℕ) →
    Adds c (text_count c cs) d (feed definition d (styled style cs))
text_adds {T} {M} c d style cs =
    (omega (arith, items_count c d.paragraph.items (styled style cs), ap (count c) (items-styled M style cs)), refl)

lines_add : {T M : Type 0} (c : ℕ) (d : DefinedBlock T M) (ls : List (Line T M)) →
    Adds c (count c (visible_in_lines ls)) d (add_lines definition d ls)
lines_add c d ls = (
  omega (
    arith,
    lines_count c d.lines (marked_before d.paragraph.waiting ls),
    ap (count c) (marked_before_same d.paragraph.waiting ls),
  ),
  refl,
)

put_lines_add : {T M : Type 0} (c : ℕ) (d : DefinedBlock T M) (ls : List (Line T M)) (ms : List M) →
    Adds c (count c (visible_in_lines ls)) d (put_lines definition d ls ms)
put_lines_add c d [] ms = marks_add c d ms
put_lines_add c d (l ∷ ls) ms =
    let added = lines_add c d (marked_behind ms (l ∷ ls)) in
    (omega (arith, added.0, ap (count c) (marked_behind_same ms (l ∷ ls))), refl)

border_adds : {T M : Type 0} (c : ℕ) (d : DefinedBlock T M) (border : Option T) (character : ℕ) →
    Adds c 0 d (add_border definition d border character)
border_adds c d None character = (omega arith, refl)
border_adds c d (Some tag) character =
    let added = lines_add c d (repeated tag character d.setting.width ∷ []) in (omega (arith, added.0), refl)

-- A flush keeps all visible characters, with an empty line after it and without.
unended_keeps : {T M : Type 0} (c : ℕ) (d : DefinedBlock T M) (gap : DefinedBlock T M → Bool) →
    IfSome (option_map (λ (e : DefinedBlock T M). unended definition (gap e) e) (flush definition d)) (Keeps c d)
unended_keeps {T} {M} c d gap = map_if (Keeps c d) (Keeps c d) _ (flush definition d) (flush_keeps c d) (λ e k. by (gap e) e k)
  where
    by : (z : Bool) (e : DefinedBlock T M) → Keeps c d e → Keeps c d (unended definition z e)
    by true e k = let added = lines_add c e ([] ∷ []) in ((omega (arith, k.0.0, added.0), k.0.1), k.1)
    by false e k = k

start_keeps : {T M : Type 0} (c : ℕ) (d : DefinedBlock T M) → IfSome (start_block definition d) (Keeps c d)
start_keeps c d = unended_keeps c d (λ e. not (is_empty e.lines))

-- A flush followed by a step that gains a number of characters.
flushed_gains : {T M : Type 0} (c n : ℕ) (d : DefinedBlock T M) (f : DefinedBlock T M → DefinedBlock T M) →
    ((e : DefinedBlock T M) → e.table ≡ d.table → Gains c n e (f e)) → IfSome (option_map f (flush definition d)) (Gains c n d)
flushed_gains c n d f next = map_if (Keeps c d) (Gains c n d) f (flush definition d) (flush_keeps c d) (λ e k.
    let own = gains c 0 d e k.0 in omega (arith, own, next e k.0.1))

-- ---- Texts

no_character : (cs : List ℕ) → eqb (length cs) 0 ≡ true → visible_in_text cs ≡ []
no_character [] e = refl
no_character (c ∷ cs) e = absurd (let n = eqb-true (length (c ∷ cs)) 0 e in omega arith)

hidden : (c : ℕ) → is_collapsible c ≡ true → if_visible c ≡ []
unfolding is_visible
hidden c e = by (is_whitespace c) e
  where
    by : (b : Bool) → (b && not (eqb c 0xA0)) ≡ true → cond (not (b || (eqb c 0x200B) || has_no_width c)) (c ∷ []) [] ≡ []
    by true e = refl
    by false e = cc

collapsible_hidden : (cs : List ℕ) → list_all is_collapsible cs ≡ true → visible_in_text cs ≡ []
collapsible_hidden [] e = refl
collapsible_hidden (c ∷ cs) e =
    let h = and_parts (is_collapsible c) (list_all is_collapsible cs) e in
    ap (λ r. r ++ visible_in_text cs) (hidden c h.0) ∙ collapsible_hidden cs h.1

blank_hidden : (mode : WhiteSpace) (cs : List ℕ) → is_collapsible_text mode cs ≡ true → visible_in_text cs ≡ []
blank_hidden Normal cs e = collapsible_hidden cs e
blank_hidden Pre cs e = cc
blank_hidden PreWrap cs e = cc

add_inline_text_count : {T M : Type 0} (c : ℕ) (d : DefinedBlock T M) (style : TextStyle T) (cs : List ℕ) →
    IfSome ((operations_of definition).add_inline_text d style cs) (Gains c (text_count c cs) d)
add_inline_text_count {T} {M} c d style cs =
    let Has : Option (DefinedBlock T M) → Type 0 = λ o. IfSome o (Gains c (text_count c cs) d) in
    if_cases Has (eqb (length cs) 0) _ _ (λ e. omega (arith, ap (count c) (no_character cs e)))
    (λ _. if_cases Has (not d.at_block_end) _ _ (λ _. gains c (text_count c cs) d (feed definition d (styled style cs)) (text_adds c d style cs))
    (λ _. if_cases Has (is_collapsible_text style.mode cs) _ _ (λ e. omega (arith, ap (count c) (blank_hidden style.mode cs e)))
    (λ _. map_if (Keeps c d) (Gains c (text_count c cs) d) _ (start_block definition d) (start_keeps c d) (λ e k.
    let text = text_adds c e style cs in omega (arith, k.0.0, ap (table_count c) k.0.1, text.0)))))

-- ---- Tables

empties-visible : (T M : Type 0) (ps : List RowPlace) → visible_in_cells (empty_cells {T = T} {M = M} ps) ≡ []
empties-visible T M [] = refl
empties-visible T M (p ∷ ps) = by p.width (empties-visible T M ps)
  where
    by : (o : Option ℕ) → visible_in_cells (empty_cells {T = T} {M = M} ps) ≡ [] → visible_in_cells (empty_cell {T = T} {M = M} o ++ empty_cells ps) ≡ []
    by None h = h
    by (Some width) h = h

-- A row has the visible characters of its cells.
past_cell_count : {T M : Type 0} (c : ℕ) (r : OpenRow T M) (cell : List (KeptCell T M)) →
    count c (visible_in_cells (past_cell r cell).cells) ≡ count c (visible_in_cells r.cells) + count c (visible_in_cells cell)
past_cell_count {T} {M} c r cell =
    let before : List (KeptCell T M) = empty_cells (before_cell r.ahead) in
    omega (
      arith,
      cells_count c (r.cells ++ before) cell,
      cells_count c r.cells before,
      ap (count c) (empties-visible T M (before_cell r.ahead)),
    )

with_open_count : {T M : Type 0} (c : ℕ) (p : Rows T M) (row : Option (OpenRow T M)) →
    count c (visible_in_rows (with_open definition p row).rows) ≡ count c (visible_in_rows p.rows) + row_count c row
with_open_count c p None = omega arith
with_open_count {T} {M} c p (Some row) =
    omega (
      arith,
      parts_count c (λ (r : TableRow T M). visible_in_cells r.cells) p.rows (whole_row row ∷ []),
      ap (count c) (append-nil (visible_in_cells (whole_row row).cells)),
      cells_count c row.cells (empty_cells row.ahead),
      ap (count c) (empties-visible T M row.ahead),
    )

-- Rows ahead, whose cells are empty, have no visible character.
with_ahead_count : {T M : Type 0} (c : ℕ) (p : Rows T M) (widths : List ℕ) (ahead : List (List PlacedCell)) →
    count c (visible_in_rows (with_ahead definition widths ahead p).rows) ≡ count c (visible_in_rows p.rows)
with_ahead_count c p widths [] = refl
with_ahead_count {T} {M} c p widths (cells ∷ rest) =
    let row : OpenRow T M = open_row widths cells in
    let one = with_open_count c p (Some row) in
    let later = with_ahead_count c (with_open definition p (Some row)) widths rest in
    omega (arith, one, later)

-- Once the table is ended, all visible characters are in the block.
end_open_count : {T M : Type 0} (c : ℕ) (d : DefinedBlock T M) (o : Option (OpenTable (Rows T M) T M)) → d.table ≡ o →
    (visible_count c d ≤ fed_count c (end_open definition d o)) × ((end_open definition d o).table ≡ None)
end_open_count c d None e = (omega (arith, ap (table_count c) e), e)
end_open_count {T} {M} c d (Some (Across p widths ahead row)) e =
    let own : Rows T M = with_open definition p row in
    let q : Rows T M = with_ahead definition widths ahead own in
    let ls : List (Line T M) = picture_lines q.frame q.waiting q.rows in
    let marks = marks_add c (record d { lines = d.lines ++ ls; table = None }) (definition.drawn q).1 in (
      omega (
        arith,
        ap (table_count c) e,
        with_open_count c p row,
        with_ahead_count c own widths ahead,
        picture_times c q.frame q.waiting q.rows,
        marks.0,
        lines_count c d.lines ls,
      ),
      refl,
    )
end_open_count c d (Some (Stacked border has_lines)) e = (omega (arith, ap (table_count c) e), refl)

-- Whether what the block d and its table show is in the lines of the block e, without a table and with an empty
-- paragraph.
abbrev Ends : {T M : Type 0} → ℕ → DefinedBlock T M → DefinedBlock T M → Type 0
Ends c d e = (visible_count c d ≤ count c (visible_in_lines e.lines)) × ((e.table ≡ None) × (e.paragraph.items ≡ []))

flush_ends : {T M : Type 0} (c : ℕ) (d : DefinedBlock T M) → IfSome (flush definition (end_table definition d)) (Ends c d)
flush_ends {T} {M} c d =
    let t = end_open_count c d d.table refl in
    IfSome_then (flush definition (end_table definition d)) (flush_keeps c (end_table definition d)) (λ e k.
    (omega (arith, t.0, k.0.0, ap (λ (xs : List (Item T M)). count c (visible_in_items xs)) k.1), (k.0.1 ∙ t.1, k.1)))

with_table_begun_count : {T M : Type 0} (c : ℕ) (d : DefinedBlock T M) (tag : T) (borders : Bool) (ahead : List (List PlacedCell)) (o : Option (List ℕ)) →
    fed_count c d ≤ visible_count c (with_table_begun definition d tag borders ahead o)
with_table_begun_count c d tag borders ahead None =
    let border = border_adds c d (cond (borders && not (d.setting.width == 0)) (Some tag) None) BORDERS.line in omega (arith, border.0)
with_table_begun_count c d tag borders ahead (Some ws) = omega arith

begin_row_count : {T M : Type 0} (c : ℕ) (o : Option (OpenTable (Rows T M) T M)) →
    table_count c (option_map with_row_open o) ≡ table_count c o
begin_row_count c None = refl
begin_row_count c (Some (Across p widths ahead None)) = refl
begin_row_count c (Some (Across p widths ahead (Some row))) = refl
begin_row_count c (Some (Stacked border has_lines)) = refl

skip_cell_count : {T M : Type 0} (c : ℕ) (o : Option (OpenTable (Rows T M) T M)) → table_count c (option_map skipped o) ≡ table_count c o
skip_cell_count c None = refl
skip_cell_count c (Some (Across p widths ahead None)) = refl
skip_cell_count c (Some (Across p widths ahead (Some row))) = omega (arith, past_cell_count c row [])
skip_cell_count c (Some (Stacked border has_lines)) = refl

put_stacked_count : {T M : Type 0} (c : ℕ) (d cell : DefinedBlock T M) (border : Option T) (has_lines more : Bool) → table_count c d.table ≡ 0 →
    Gains c (count c (visible_in_lines cell.lines)) d (put_stacked definition d border has_lines more cell)
put_stacked_count {T} {M} c d cell border has_lines more none =
    let slash : DefinedBlock T M = add_border definition d border BORDERS.slash in
    let slashes = if_cases (Adds c 0 d) (has_lines && more) slash d (λ _. border_adds c d border BORDERS.slash) (λ _. (omega arith, refl)) in
    let added = put_lines_add c (cond (has_lines && more) slash d) cell.lines cell.paragraph.waiting in
    omega (arith, slashes.0, added.0, none)

cell_added_count : {T M : Type 0} (c : ℕ) (d : DefinedBlock T M) (o : Option (OpenTable (Rows T M) T M)) (cell : DefinedBlock T M) →
    d.table ≡ o → IfSome (cell_added definition d o cell) (Gains c (count c (visible_in_lines cell.lines)) d)
cell_added_count c d (Some (Across p widths ahead (Some row))) cell e =
    omega (
      arith,
      ap (table_count c) e,
      past_cell_count c row (record { width = cell.setting.width; lines = cell.lines; marks = cell.paragraph.waiting } ∷ []),
      ap (count c) (append-nil (visible_in_lines cell.lines)),
    )
cell_added_count c d (Some (Stacked border has_lines)) cell e =
    flushed_gains c (count c (visible_in_lines cell.lines)) d (λ b. put_stacked definition b border has_lines (not (is_empty cell.lines)) cell)
    (λ b h. put_stacked_count c b cell border has_lines (not (is_empty cell.lines)) (ap (table_count c) (h ∙ e)))
cell_added_count {T} {M} c d _ cell e =
    let put : DefinedBlock T M → DefinedBlock T M = λ b. put_lines definition b cell.lines cell.paragraph.waiting in
    let n = count c (visible_in_lines cell.lines) in
    flushed_gains c n d put (λ b _. gains c n b (put b) (put_lines_add c b cell.lines cell.paragraph.waiting))

row_ended_count : {T M : Type 0} (c : ℕ) (d : DefinedBlock T M) (o : Option (OpenTable (Rows T M) T M)) → d.table ≡ o →
    IfSome (row_ended definition d o) (Gains c 0 d)
row_ended_count c d None e = omega arith
row_ended_count c d (Some (Across p widths ahead row)) e = omega (arith, ap (table_count c) e, with_open_count c p row)
row_ended_count c d (Some (Stacked border true)) e = flushed_gains c 0 d _ (λ f h.
    let line = border_adds c f border BORDERS.line in omega (arith, line.0, ap (table_count c) (h ∙ e)))
row_ended_count c d (Some (Stacked border false)) e = omega arith

-- ---- Sub-blocks

line_count : {T M : Type 0} (c : ℕ) (p l : Line T M) → count c (visible_in_line l) ≤ count c (visible_in_line (p ++ l))
line_count c p l =
    let e = ap (count c) (visible_in_line-append p l) in
    omega (arith, e, count-append c (visible_in_line p) (visible_in_line l))

behind_count : {T M : Type 0} (c : ℕ) (p : Line T M) (ls : List (Line T M)) →
    count c (visible_in_lines ls) ≤ count c (visible_in_lines (map (◌++◌ p) ls))
behind_count c p [] = omega arith
behind_count c p (l ∷ ls) =
    omega (
      arith,
      line_count c p l,
      behind_count c p ls,
      count-append c (visible_in_line l) (visible_in_lines ls),
      count-append c (visible_in_line (p ++ l)) (visible_in_lines (map (◌++◌ p) ls)),
    )

prefixed_count : {T M : Type 0} (c : ℕ) (p q : Line T M) (ls : List (Line T M)) →
    count c (visible_in_lines ls) ≤ count c (visible_in_lines (prefixed p q ls))
prefixed_count c p q [] = omega arith
prefixed_count c p q (l ∷ ls) =
    omega (
      arith,
      line_count c p l,
      behind_count c q ls,
      count-append c (visible_in_line l) (visible_in_lines ls),
      count-append c (visible_in_line (p ++ l)) (visible_in_lines (map (◌++◌ q) ls)),
    )

append_count : {T M : Type 0} (c : ℕ) (d e : DefinedBlock T M) (t : T) (first later : List ℕ) →
    IfSome (append definition d e t first later) (λ f. visible_count c d + visible_count c e ≤ visible_count c f)
append_count {T} {M} c d e t first later =
    let More : DefinedBlock T M → Type 0 = λ f. visible_count c d + visible_count c e ≤ visible_count c f in
    bind_some (Keeps c d) More _ (flush definition d) (flush_keeps c d) (λ b k.
    bind_some (Ends c e) More _ (flush definition (end_table definition e)) (flush_ends c e) (λ g h.
    let lines : List (Line T M) = prefixed (under t first) (under t later) g.lines in
    if_cases (λ (r : Option (List (Line T M))). IfSome (option_map (λ ls. put_lines definition b ls g.paragraph.waiting) r) More)
    (b.setting.overflow || list_all (λ (l : Line T M). leb (columns l) b.setting.width) lines) _ _ (λ _.
    let own = gains c 0 d b k.0 in
    let added = put_lines_add c b lines g.paragraph.waiting in
    let all = gains c (count c (visible_in_lines lines)) b (put_lines definition b lines g.paragraph.waiting) added in
    omega (arith, own, h.0, all, prefixed_count c (under t first) (under t later) g.lines)) (λ _. tt)))

-- THE LAW: a character is visible in a block at least as often as it was visible in what was fed.
pub operations_keep_visible : {T : Type 0} (c : ℕ) → Counts (visible_count c) (text_count c) (operations {T = T})
unfolding operations
operations_keep_visible {T} c = record {
  add_inline_text = add_inline_text_count c;
  add_mark = λ d m. let k = marks_add c d (m ∷ []) in omega (arith, k.0);
  new_line = λ d. kept d (flush definition d) (flush_keeps c d);
  new_line_hard = λ d. kept d _ (unended_keeps c d (λ e. eqb (length e.lines) (length d.lines)));
  start_block = λ d. kept d (start_block definition d) (start_keeps c d);
  end_block = λ d. omega arith;
  append = append_count c;
  begin_table = λ d tag borders stacked grid needs. map_if (Ends c d) (λ e. visible_count c d ≤ visible_count c e) _
      (flush definition (end_table definition d)) (flush_ends c d) (λ e h.
      let begun = with_table_begun_count c e tag borders (rows_on grid) (cond stacked None (widths_across e.setting.width needs)) in
      omega (arith, h.0, begun));
  begin_row = λ d. omega (arith, begin_row_count c d.table);
  add_cell = λ d cell. bind_some (Ends c cell) (λ e. visible_count c d + visible_count c cell ≤ visible_count c e) (cell_added definition d d.table)
      (flush definition (end_table definition cell)) (flush_ends c cell) (λ f h.
      IfSome_then (cell_added definition d d.table f) (cell_added_count c d d.table f refl) (λ e k. omega (arith, h.0, k)));
  skip_cell = λ d. omega (arith, skip_cell_count c d.table);
  end_row = λ d. IfSome_then (row_ended definition d d.table) (row_ended_count c d d.table refl) (λ e k. omega (arith, k));
  end_table = λ d. let t = end_open_count c d d.table refl in omega (arith, t.0);
}
  where
    kept : (d : DefinedBlock T ℕ) (o : Option (DefinedBlock T ℕ)) → IfSome o (Keeps c d) → IfSome o (λ e. visible_count c d ≤ visible_count c e)
    kept d o h = IfSome_then o h (λ e k. let own = gains c 0 d e k.0 in omega (arith, own))

-- ---- The end of a document

-- Once a block is finished, all visible characters are in its lines.
pub finish_count : {T M : Type 0} (c : ℕ) (d : DefinedBlock T M) →
    IfSome (finish definition d) (λ e. visible_count c d ≤ count c (visible_in_lines e.lines))
finish_count {T} {M} c d =
    map_if (Ends c d) _ _ (flush definition (end_table definition d)) (flush_ends c d) (λ e h.
    if_cases (λ (f : DefinedBlock T M). visible_count c d ≤ count c (visible_in_lines f.lines)) (is_empty e.lines) _ _ (λ _. h.0)
    (λ _. omega (arith, h.0, ap (count c) (marked_behind_same e.paragraph.waiting e.lines))))

-- Closing lines leave all visible characters in the lines.
pub closing_count : {T M : Type 0} (c : ℕ) (d : DefinedBlock T M) (cut : Bool) (tag : T) (ts : List (List ℕ)) →
    IfSome (add_closing_lines definition d cut tag ts) (λ e. count c (visible_in_lines d.lines) ≤ count c (visible_in_lines e.lines))
closing_count c d cut tag [] = omega arith
closing_count {T} {M} c d cut tag (t ∷ ts) =
    let More : DefinedBlock T M → Type 0 = λ e. count c (visible_in_lines d.lines) ≤ count c (visible_in_lines e.lines) in
    bind_some (Keeps c d) More _ (start_block definition d) (start_keeps c d) (λ e k.
    bind_some (λ ls. Unit {0}) More (λ (ls : List (Line T M)). Some (add_lines definition e ls)) _ (any (closing_lines e.setting cut tag (t ∷ ts))) (λ ls _.
    let added = lines_add c e ls in
    omega (arith, k.0.0, ap (λ (xs : List (Item T M)). count c (visible_in_items xs)) k.1, added.0)))
