-- A map of tags commutes with the picture, row by row.
use Rattle.std.proofs.Common.{◌≡◌, ℕ, ◌-◌, ◌++◌, Bool, true, false, cond, max, not, ◌||◌, ◌&&◌, ◌==◌, List, [], ◌∷◌, length, map, replicate, get_or}
use Rattle.std.proofs.Common.{Option, Some, None, fold, zero, suc, refl, sym, ap, ◌∙◌}
use Rattle.std.specs.List.{flat_map, list_any, range_with_len}
use Rattle.std.proofs.lemmas.List.{map-append, length-map}
use Rattle.html_render_layout_lines.specs.declared.line.Element.TheVariants.{Character}
use Rattle.html_render_layout_lines.specs.Line.{Line, marks_line, is_empty}
use Rattle.html_render_layout_lines.specs.Tags.{element_with, line_with, lines_with}
use Rattle.html_render_layout_lines.specs.laws.Tags.{if_with, marks-with}
use Rattle.html_render_layout_buffer.specs.Marked.{marked_before, marked_behind}
use Rattle.html_render_layout_buffer.specs.Padding.{filled}
use Rattle.html_render_layout_pictures.specs.laws.Lines.{marked_behind-with}
use Rattle.html_render_layout_pictures.specs.laws.Padding.{filled-with}
use Rattle.html_render_layout_pictures.specs.declared.picture.Frame.{Frame}
use Rattle.html_render_layout_pictures.specs.Picture.{KeptCell, TableRow, is_drawn, waiting_in}
use Rattle.html_render_layout_pictures.specs.Picture.{separators_of, joint, height, has_top, border, cell_lines, beside, row_lines, picture}
use Rattle.html_render_layout_pictures.specs.Rows.{separator}
use Rattle.html_render_layout_pictures.specs.Drawing.{Drawing, DueBorder, due_lines, due_below, with_cells, with_row, with_rows, begun, finished}
use Rattle.html_render_layout_pictures.specs.Tags.{cell_with, row_with, frame_with, drawing_with, drawn_with}
use Rattle.html_render_layout_pictures.specs.laws.Rows.{drawn_is}

module _ {T U M : Type 0} (f : T → U) where
  pub lines-append : (a b : List (Line T M)) → lines_with f (a ++ b) ≡ lines_with f a ++ lines_with f b
  lines-append a b = map-append (line_with f) a b

  pub marked_before-with : (ms : List M) (ls : List (Line T M)) → marked_before ms (lines_with f ls) ≡ lines_with f (marked_before ms ls)
  marked_before-with ms [] = refl
  marked_before-with ms (l ∷ ls) =
      ap (λ l. l ∷ lines_with f ls) (ap (λ m. m ++ line_with f l) (sym (marks-with f ms)) ∙ sym (map-append (element_with f) (marks_line ms) l))

  empty-with : (n : ℕ) → lines_with {M = M} f (replicate n []) ≡ replicate n []
  empty-with zero = refl
  empty-with (suc n) = ap (λ ls. [] ∷ ls) (empty-with n)

  -- ---- rows

  module _ (frame : Frame T) where
    cell-with : (h : ℕ) (c : KeptCell T M) → cell_lines (frame_with f frame) h (cell_with f c) ≡ lines_with f (cell_lines frame h c)
    cell-with h c =
        let lines : List (Line T M) = marked_behind c.marks c.lines in
        let empty : List (Line T M) = replicate (h - length c.lines) [] in
        ap (λ n. filled (Some (f frame.tag)) c.width (marked_behind c.marks (lines_with f c.lines) ++ replicate (h - n) [])) (length-map c.lines (line_with f))
        ∙ ap (λ ls. filled (Some (f frame.tag)) c.width (ls ++ replicate (h - length c.lines) [])) (sym (marked_behind-with f c.marks c.lines))
        ∙ ap (λ ls. filled (Some (f frame.tag)) c.width (lines_with f lines ++ ls)) (sym (empty-with (h - length c.lines)))
        ∙ ap (filled (Some (f frame.tag)) c.width) (sym (lines-append lines empty))
        ∙ sym (filled-with f (Some frame.tag) c.width (lines ++ empty))

    beside-with : (ls rs : List (Line T M)) → beside (frame_with f frame) (lines_with f ls) (lines_with f rs) ≡ lines_with f (beside frame ls rs)
    beside-with [] rs = refl
    beside-with (l ∷ ls) [] = refl
    beside-with (l ∷ ls) (r ∷ rs) =
        ap (λ x. x ∷ beside (frame_with f frame) (lines_with f ls) (lines_with f rs)) (sym (map-append (element_with f) l (separator frame ∷ r)))
        ∙ ap (λ xs. line_with f (l ++ separator frame ∷ r) ∷ xs) (beside-with ls rs)

    joined-with : (h : ℕ) (ls : List (Line T M)) (cs : List (KeptCell T M)) →
        fold (beside (frame_with f frame)) (lines_with f ls) (map (cell_lines (frame_with f frame) h) (map (cell_with f) cs))
        ≡ lines_with f (fold (beside frame) ls (map (cell_lines frame h) cs))
    joined-with h ls [] = refl
    joined-with h ls (c ∷ cs) =
        ap (λ b. fold (beside (frame_with f frame)) (beside (frame_with f frame) (lines_with f ls) b)
        (map (cell_lines (frame_with f frame) h) (map (cell_with f) cs)))
        (cell-with h c)
        ∙ ap (λ b. fold (beside (frame_with f frame)) b (map (cell_lines (frame_with f frame) h) (map (cell_with f) cs)))
        (beside-with ls (cell_lines frame h c))
        ∙ joined-with h (beside frame ls (cell_lines frame h c)) cs

    highest-with : (n : ℕ) (cs : List (KeptCell T M)) → fold (λ h (c : KeptCell U M). max h (length c.lines)) n (map (cell_with f) cs)
        ≡ fold (λ h (c : KeptCell T M). max h (length c.lines)) n cs
    highest-with n [] = refl
    highest-with n (c ∷ cs) =
        ap (λ k. fold (λ h (c : KeptCell U M). max h (length c.lines)) (max n k) (map (cell_with f) cs)) (length-map c.lines (line_with f))
        ∙ highest-with (max n (length c.lines)) cs

    row-with : (cs : List (KeptCell T M)) → row_lines (frame_with f frame) (map (cell_with f) cs) ≡ lines_with f (row_lines frame cs)
    row-with [] = refl
    row-with (c ∷ cs) =
        let new = frame_with f frame in
        ap (λ h. fold (beside new) (cell_lines new h (cell_with f c)) (map (cell_lines new h) (map (cell_with f) cs))) (highest-with 1 (c ∷ cs))
        ∙ ap (λ b. fold (beside new) b (map (cell_lines new (height (c ∷ cs))) (map (cell_with f) cs))) (cell-with (height (c ∷ cs)) c)
        ∙ joined-with (height (c ∷ cs)) (cell_lines frame (height (c ∷ cs)) c) cs

    -- ---- borders

    shown-with : (shown : ℕ → ℕ) (xs : List ℕ) →
        map (λ x. Character (shown x) (f frame.tag)) xs ≡ line_with {M = M} f (map (λ x. Character (shown x) frame.tag) xs)
    shown-with shown [] = refl
    shown-with shown (x ∷ xs) = ap (λ l. Character (shown x) (f frame.tag) ∷ l) (shown-with shown xs)

    border-with : (above below : List Bool) → border {M = M} (frame_with f frame) above below ≡ line_with f (border {M = M} frame above below)
    border-with above below =
        shown-with (λ x. joint (get_or above x false) (get_or below x false)) (range_with_len 0 (max (length above) (length below)))

  more-with : (cs : List (KeptCell T M)) → flat_map (λ (d : KeptCell U M). true ∷ replicate d.width false) (map (cell_with f) cs)
      ≡ flat_map (λ (d : KeptCell T M). true ∷ replicate d.width false) cs
  more-with [] = refl
  more-with (c ∷ cs) = ap (λ bs. (true ∷ replicate c.width false) ++ bs) (more-with cs)

  separators-with : (cs : List (KeptCell T M)) → separators_of (map (cell_with f) cs) ≡ separators_of cs
  separators-with [] = refl
  separators-with (c ∷ cs) = ap (λ bs. replicate c.width false ++ bs) (more-with cs)

  -- ---- which rows are drawn, and which marks wait

  some_lines-with : (cs : List (KeptCell T M)) → list_any (λ (c : KeptCell U M). not (is_empty c.lines)) (map (cell_with f) cs)
      ≡ list_any (λ (c : KeptCell T M). not (is_empty c.lines)) cs
  some_lines-with [] = refl
  some_lines-with (c ∷ cs) =
      ap (λ n. not (n == 0) || list_any (λ (c : KeptCell U M). not (is_empty c.lines)) (map (cell_with f) cs)) (length-map c.lines (line_with f))
      ∙ ap (λ b. not (is_empty c.lines) || b) (some_lines-with cs)

  is_drawn-with : (r : TableRow T M) → is_drawn (row_with f r) ≡ is_drawn r
  is_drawn-with r =
      ap (λ b. b || (r.has_placeholder && not (is_empty (map (cell_with f) r.cells)))) (some_lines-with r.cells)
      ∙ ap (λ n. list_any (λ (c : KeptCell T M). not (is_empty c.lines)) r.cells || (r.has_placeholder && not (n == 0))) (length-map r.cells (cell_with f))

  waiting-with : (cs : List (KeptCell T M)) → waiting_in (map (cell_with f) cs) ≡ waiting_in cs
  waiting-with [] = refl
  waiting-with (c ∷ cs) =
      ap (λ n. cond (n == 0) c.marks [] ++ waiting_in (map (cell_with f) cs)) (length-map c.lines (line_with f))
      ∙ ap (λ ms. cond (length c.lines == 0) c.marks [] ++ ms) (waiting-with cs)

  -- ---- row by row

  due_lines-with : (frame : Frame T) (due : Option (DueBorder M)) (below : List Bool) →
      due_lines (frame_with f frame) due below ≡ lines_with f (due_lines frame due below)
  due_lines-with frame None below = refl
  due_lines-with frame (Some e) below =
      ap (λ l. marked_before e.marks (l ∷ [])) (border-with frame e.above below) ∙ marked_before-with e.marks (border frame e.above below ∷ [])

  -- a row with these separators was drawn last
  abbrev drawn_up_to : Frame U → List Bool → List (Line U M) → Drawing U M
  drawn_up_to frame separators ls = record { frame = frame; lines = ls; waiting = []; due = due_below frame separators }

  with_cells-with : (d : Drawing T M) (cs : List (KeptCell T M)) →
      with_cells (drawing_with f d) (map (cell_with f) cs) ≡ drawing_with f (with_cells d cs)
  with_cells-with d cs =
      let new = frame_with f d.frame in
      let due = due_lines d.frame d.due (separators_of cs) in
      let row = marked_before (d.waiting ++ waiting_in cs) (row_lines d.frame cs) in
      ap (λ s. drawn_up_to new s ((lines_with f d.lines ++ due_lines new d.due s)
      ++ marked_before (d.waiting ++ waiting_in (map (cell_with f) cs)) (row_lines new (map (cell_with f) cs)))) (separators-with cs)
      ∙ ap (drawn_up_to new (separators_of cs))
      (ap (λ ls. (lines_with f d.lines ++ ls)
      ++ marked_before (d.waiting ++ waiting_in (map (cell_with f) cs)) (row_lines new (map (cell_with f) cs)))
      (due_lines-with d.frame d.due (separators_of cs))
      ∙ ap (λ ms. (lines_with f d.lines ++ lines_with f due) ++ marked_before (d.waiting ++ ms) (row_lines new (map (cell_with f) cs))) (waiting-with cs)
      ∙ ap (λ ls. (lines_with f d.lines ++ lines_with f due) ++ marked_before (d.waiting ++ waiting_in cs) ls) (row-with d.frame cs)
      ∙ ap (λ ls. (lines_with f d.lines ++ lines_with f due) ++ ls) (marked_before-with (d.waiting ++ waiting_in cs) (row_lines d.frame cs))
      ∙ ap (λ ls. ls ++ lines_with f row) (sym (lines-append d.lines due))
      ∙ sym (lines-append (d.lines ++ due) row))

  -- a row is added whatever the tags are
  pub with_row-with : (d : Drawing T M) (r : TableRow T M) → with_row (drawing_with f d) (row_with f r) ≡ drawing_with f (with_row d r)
  with_row-with d r =
      if_with (drawing_with f) (is_drawn r) (is_drawn (row_with f r)) (with_cells d r.cells) (record d { waiting = d.waiting ++ waiting_in r.cells }) _ _
      (is_drawn-with r) (with_cells-with d r.cells)
      (ap (λ ms. record (drawing_with f d) { waiting = d.waiting ++ ms }) (waiting-with r.cells))

  pub begun-with : (frame : Frame T) (waiting : List M) → begun (frame_with f frame) waiting ≡ drawing_with f (begun frame waiting)
  begun-with frame waiting = if_with (drawing_with f) (has_top frame) (has_top frame) _ _ _ _ refl refl refl

  pub finished-with : (d : Drawing T M) → finished (drawing_with f d) ≡ drawn_with f (finished d)
  finished-with d = ap (λ ls. (ls, d.waiting))
      (ap (λ ls. lines_with f d.lines ++ ls) (due_lines-with d.frame d.due []) ∙ sym (lines-append d.lines (due_lines d.frame d.due [])))

  with_rows-with : (d : Drawing T M) (rows : List (TableRow T M)) → with_rows (drawing_with f d) (map (row_with f) rows) ≡ drawing_with f (with_rows d rows)
  with_rows-with d [] = refl
  with_rows-with d (r ∷ rs) = ap (λ e. with_rows e (map (row_with f) rs)) (with_row-with d r) ∙ with_rows-with (with_row d r) rs

  -- THE LAW: a map of tags commutes with the picture, and no mark hangs on a tag
  pub picture_with : (frame : Frame T) (waiting : List M) (rows : List (TableRow T M)) →
      picture (frame_with f frame) waiting (map (row_with f) rows) ≡ drawn_with f (picture frame waiting rows)
  picture_with frame waiting rows =
      sym (drawn_is (frame_with f frame) waiting (map (row_with f) rows))
      ∙ ap (λ d. finished (with_rows d (map (row_with f) rows))) (begun-with frame waiting)
      ∙ ap finished (with_rows-with (begun frame waiting) rows)
      ∙ finished-with (with_rows (begun frame waiting) rows)
      ∙ ap (drawn_with f) (drawn_is frame waiting rows)
