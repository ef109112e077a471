-- No visible character of a cell's lines is lost.
use Rattle.std.proofs.Common.{◌≡◌, ℕ, zero, suc, ◌+◌, ◌-◌, ◌≤◌, ◌++◌, Bool, true, false, not, ◌||◌, ◌&&◌, cond, List, [], ◌∷◌, All, length, map}
use Rattle.std.proofs.Common.{replicate, fold, Some, refl, sym, ap, ◌∙◌, arith, append-nil}
use Rattle.std.specs.List.{list_any}
use Rattle.std.proofs.lemmas.Bool.{eqb-true}
use Rattle.std.proofs.lemmas.List.Elements.{All-head, All-tail}
use Rattle.html_render_layout_pictures.specs.declared.borders.TheConstants.{BORDERS}
use Rattle.html_render_layout_lines.specs.Line.{Line, marks_line, is_empty}
use Rattle.html_render_layout_lines.specs.Visible.{visible_in_line, visible_in_lines, if_visible}
use Rattle.html_render_layout_lines.specs.laws.Cases.{if_cases}
use Rattle.html_render_layout_lines.specs.laws.Visible.{visible_in_line-append, visible_in_line-marks}
use Rattle.html_render_layout_buffer.specs.Marked.{marked_before, marked_behind}
use Rattle.html_render_layout_pictures.specs.Visible.{count, visible_in_cells, visible_in_rows}
use Rattle.html_render_layout_pictures.specs.laws.Lines.{lines-append, marked_behind_same, count-append}
use Rattle.html_render_layout_pictures.specs.laws.Padding.{filled-visible}
use Rattle.html_render_layout_pictures.specs.declared.picture.Frame.{Frame}
use Rattle.html_render_layout_pictures.specs.Picture.{KeptCell, TableRow, is_drawn, waiting_in, separators_of, height}
use Rattle.html_render_layout_pictures.specs.Rows.{separator}
use Rattle.html_render_layout_pictures.specs.Picture.{cell_lines, beside, row_lines, picture_lines}
use Rattle.html_render_layout_pictures.specs.Drawing.{Drawing, due_lines, with_cells, with_row, with_rows, begun}
use Rattle.html_render_layout_pictures.specs.laws.Heights.{IsNoHigher, row_highest, cell-height, beside-height}
use Rattle.html_render_layout_pictures.specs.laws.Rows.{drawn_is}

empty-visible : (T M : Type 0) (n : ℕ) → visible_in_lines {T = T} {M = M} (replicate n []) ≡ []
empty-visible T M zero = refl
empty-visible T M (suc n) = empty-visible T M n

undrawn_lines : (b p e : Bool) → (b || (p && e)) ≡ false → b ≡ false
undrawn_lines true p e h = cc
undrawn_lines false p e h = refl

-- characters of which the first ones aren't there
none_before : {T M : Type 0} (ls : List (Line T M)) (b : Bool) (cs : List ℕ) → (not (is_empty ls) || b) ≡ false → (b ≡ false → cs ≡ []) →
    visible_in_lines ls ++ cs ≡ []
none_before [] b cs e h = h e
none_before {T} {M} (l ∷ ls) b cs e h = by (is_empty (l ∷ ls)) refl e
  where
    by : (none : Bool) → is_empty (l ∷ ls) ≡ none → (not none || b) ≡ false → visible_in_lines (l ∷ ls) ++ cs ≡ []
    by true k e = absurd (omega (arith, eqb-true (length (l ∷ ls)) 0 k))
    by false k e = cc

module _ {T M : Type 0} where
  -- ---- what marks and spaces leave as it is

  pub marked_before_same : (ms : List M) (ls : List (Line T M)) → visible_in_lines (marked_before ms ls) ≡ visible_in_lines ls
  marked_before_same ms [] = refl
  marked_before_same ms (l ∷ ls) = ap (λ r. r ++ visible_in_lines ls)
      (visible_in_line-append (marks_line ms) l ∙ ap (λ r. r ++ visible_in_line l) (visible_in_line-marks T ms))

  cell-visible : (frame : Frame T) (h : ℕ) (c : KeptCell T M) → visible_in_lines (cell_lines frame h c) ≡ visible_in_lines c.lines
  cell-visible frame h c =
      let lines : List (Line T M) = marked_behind c.marks c.lines in
      let empty : List (Line T M) = replicate (h - length c.lines) [] in
      filled-visible (Some frame.tag) c.width (lines ++ empty)
      ∙ lines-append lines empty
      ∙ ap (λ r. visible_in_lines lines ++ r) (empty-visible T M (h - length c.lines))
      ∙ append-nil (visible_in_lines lines)
      ∙ marked_behind_same c.marks c.lines

  -- a row without lines has no character
  none-visible : (cells : List (KeptCell T M)) → list_any (λ (c : KeptCell T M). not (is_empty c.lines)) cells ≡ false → visible_in_cells cells ≡ []
  none-visible [] e = refl
  none-visible (c ∷ cs) e = none_before c.lines (list_any (λ (d : KeptCell T M). not (is_empty d.lines)) cs) (visible_in_cells cs) e (λ k. none-visible cs k)

  -- ---- how often a character is visible

  module _ (ch : ℕ) (frame : Frame T) where
    abbrev times : List (Line T M) → ℕ
    times ls = count ch (visible_in_lines ls)

    times-append : (ls ks : List (Line T M)) → times (ls ++ ks) ≡ times ls + times ks
    times-append ls ks = ap (count ch) (lines-append ls ks) ∙ count-append ch (visible_in_lines ls) (visible_in_lines ks)

    line_times : (l r : Line T M) → count ch (visible_in_line l) + count ch (visible_in_line r)
        ≤ count ch (visible_in_line (l ++ separator frame ∷ r))
    line_times l r =
        let between = cond frame.borders BORDERS.separator 0x20 in
        let e = ap (count ch) (visible_in_line-append l (separator frame ∷ r)) in
        omega (
          arith,
          e,
          count-append ch (visible_in_line l) (if_visible between ++ visible_in_line r),
          count-append ch (if_visible between) (visible_in_line r),
        )

    beside_times : (ls rs : List (Line T M)) → length ls ≡ length rs → times ls + times rs ≤ times (beside frame ls rs)
    beside_times [] [] e = omega arith
    beside_times [] (r ∷ rs) e = absurd (omega (arith, e))
    beside_times (l ∷ ls) [] e = absurd (omega (arith, e))
    beside_times (l ∷ ls) (r ∷ rs) e =
        let both : Line T M = l ++ separator frame ∷ r in
        omega (
          arith,
          line_times l r,
          beside_times ls rs (omega (arith, e)),
          count-append ch (visible_in_line l) (visible_in_lines ls),
          count-append ch (visible_in_line r) (visible_in_lines rs),
          count-append ch (visible_in_line both) (visible_in_lines (beside frame ls rs)),
        )

    joined_times : (h : ℕ) (ls : List (Line T M)) (cs : List (KeptCell T M)) → length ls ≡ h → All (IsNoHigher h) cs →
        times ls + count ch (visible_in_cells cs) ≤ times (fold (beside frame) ls (map (cell_lines frame h) cs))
    joined_times h ls [] n higher = omega arith
    joined_times h ls (c ∷ cs) n higher =
        let here : IsNoHigher h c = All-head (IsNoHigher h) c cs higher in
        let cell = cell_lines frame h c in
        omega (
          arith,
          beside_times ls cell (n ∙ sym (cell-height frame h c here)),
          ap (count ch) (cell-visible frame h c),
          count-append ch (visible_in_lines c.lines) (visible_in_cells cs),
          joined_times h (beside frame ls cell) cs (beside-height frame ls cell ∙ n) (All-tail (IsNoHigher h) c cs higher),
        )

    -- the characters of cells are among those of their row
    pub row_times : (cells : List (KeptCell T M)) → count ch (visible_in_cells cells) ≤ times (row_lines frame cells)
    row_times [] = omega arith
    row_times (c ∷ cs) =
        let h = height (c ∷ cs) in
        let all = row_highest (c ∷ cs) in
        let cell = cell_lines frame h c in
        omega (
          arith,
          joined_times h cell cs (cell-height frame h c (All-head (IsNoHigher h) c cs all)) (All-tail (IsNoHigher h) c cs all),
          ap (count ch) (cell-visible frame h c),
          count-append ch (visible_in_lines c.lines) (visible_in_cells cs),
        )

  -- a row adds its characters
  pub with_row_times : (ch : ℕ) (d : Drawing T M) (r : TableRow T M) →
      count ch (visible_in_lines d.lines) + count ch (visible_in_cells r.cells) ≤ count ch (visible_in_lines (with_row d r).lines)
  with_row_times ch d r =
      if_cases (λ (e : Drawing T M). count ch (visible_in_lines d.lines) + count ch (visible_in_cells r.cells) ≤ count ch (visible_in_lines e.lines))
      (is_drawn r) (with_cells d r.cells) (record d { waiting = d.waiting ++ waiting_in r.cells })
      (λ _.
      let due = due_lines d.frame d.due (separators_of r.cells) in
      let row = row_lines d.frame r.cells in
      let marked = marked_before (d.waiting ++ waiting_in r.cells) row in
      omega (
        arith,
        row_times ch d.frame r.cells,
        ap (count ch) (marked_before_same (d.waiting ++ waiting_in r.cells) row),
        times-append ch d.frame (d.lines ++ due) marked,
        times-append ch d.frame d.lines due,
      ))
      (λ e.
      let none = ap (count ch) (none-visible r.cells (undrawn_lines _ r.has_placeholder (not (is_empty r.cells)) e)) in
      omega (arith, none))

  with_rows_times : (ch : ℕ) (d : Drawing T M) (rows : List (TableRow T M)) →
      count ch (visible_in_lines d.lines) + count ch (visible_in_rows rows) ≤ count ch (visible_in_lines (with_rows d rows).lines)
  with_rows_times ch d [] = omega arith
  with_rows_times ch d (r ∷ rs) =
      omega (
        arith,
        with_row_times ch d r,
        with_rows_times ch (with_row d r) rs,
        count-append ch (visible_in_cells r.cells) (visible_in_rows rs),
      )

  -- THE LAW: each visible character of the rows stands in the picture at least as often
  pub picture_times : (ch : ℕ) (frame : Frame T) (waiting : List M) (rows : List (TableRow T M)) →
      count ch (visible_in_rows rows) ≤ count ch (visible_in_lines (picture_lines frame waiting rows))
  picture_times ch frame waiting rows =
      let d = with_rows (begun frame waiting) rows in
      let e : d.lines ++ due_lines d.frame d.due [] ≡ picture_lines frame waiting rows = ap (λ p. p.0) (drawn_is frame waiting rows) in
      omega (
        arith,
        with_rows_times ch (begun frame waiting) rows,
        times-append ch frame d.lines (due_lines d.frame d.due []),
        ap (λ ls. count ch (visible_in_lines ls)) e,
      )
