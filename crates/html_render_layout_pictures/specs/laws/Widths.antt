-- How wide the lines of a picture are.
use Rattle.std.proofs.Common.{◌≡◌, ℕ, ◌+◌, ◌-◌, ◌≤◌, ◌++◌, Bool, true, false, cond, List, [], ◌∷◌, All, length, map, max, sum_by, get_or}
use Rattle.std.proofs.Common.{replicate, fold, refl, subst, sym, ◌∙◌, arith}
use Rattle.std.specs.List.{range_with_len, flat_map}
use Rattle.std.proofs.lemmas.List.{length-append, length-replicate}
use Rattle.std.proofs.lemmas.List.FromFn.{length-range_with_len}
use Rattle.std.proofs.lemmas.List.Sums.{sum_by-cons}
use Rattle.std.proofs.lemmas.List.Elements.{All-nil, All-cons, All-head, All-tail, All-append, All-map, All-replicate, All-weaker}
use Rattle.html_render_layout_lines.specs.declared.line.Element.TheVariants.{Character}
use Rattle.html_render_layout_lines.specs.Character.{width_of}
use Rattle.html_render_layout_lines.specs.Line.{Line, columns, marks_line, AllWithinWidth}
use Rattle.html_render_layout_lines.specs.laws.Columns.{columns-append, columns-cons, columns-marks, width-space}
use Rattle.html_render_layout_buffer.specs.Marked.{marked_before, marked_behind}
use Rattle.html_render_layout_buffer.specs.Padding.{repeated, filled_line}
use Rattle.html_render_layout_pictures.specs.declared.picture.Frame.{Frame}
use Rattle.html_render_layout_pictures.specs.Picture.{KeptCell, TableRow, is_drawn, waiting_in, separators_of, next_separators}
use Rattle.html_render_layout_pictures.specs.Picture.{joint, height, has_top, border, cell_lines, beside, row_lines, rows_lines, picture_lines}
use Rattle.html_render_layout_pictures.specs.Rows.{separator}
use Rattle.html_render_layout_pictures.specs.Widths.{row_width, KeepsToWidth, RowWithin, AllAsWide}
use Rattle.html_render_layout_pictures.specs.laws.Glyphs.{joint_width, separator_width}
use Rattle.html_render_layout_pictures.specs.laws.Padding.{repeated-columns}
use Rattle.html_render_layout_pictures.specs.laws.Heights.{IsNoHigher, row_highest, cell-height, beside-height}

module _ {T M : Type 0} where
  abbrev IsWithin : ℕ → Line T M → Type 0
  IsWithin w l = columns l ≤ w

  abbrev IsAsWide : ℕ → Line T M → Type 0
  IsAsWide w l = columns l ≡ w

  -- ---- marks take no column

  pub marked_before-within : (w : ℕ) (ms : List M) (ls : List (Line T M)) → AllWithinWidth w ls → AllWithinWidth w (marked_before ms ls)
  marked_before-within w ms [] h = h
  marked_before-within w ms (l ∷ ls) h =
      All-cons (IsWithin w) (marks_line ms ++ l) ls
      (let here = All-head (IsWithin w) l ls h in omega (arith, here, columns-append (marks_line ms) l, columns-marks T ms))
      (All-tail (IsWithin w) l ls h)

  pub marked_behind-within : (w : ℕ) (ms : List M) (ls : List (Line T M)) → AllWithinWidth w ls → AllWithinWidth w (marked_behind ms ls)
  marked_behind-within w ms [] h = h
  marked_behind-within w ms (l ∷ []) h =
      All-cons (IsWithin w) (l ++ marks_line ms) []
      (let here = All-head (IsWithin w) l [] h in omega (arith, here, columns-append l (marks_line ms), columns-marks T ms))
      (All-nil (IsWithin w))
  marked_behind-within w ms (l ∷ k ∷ ls) h =
      All-cons (IsWithin w) l (marked_behind ms (k ∷ ls)) (All-head (IsWithin w) l (k ∷ ls) h)
      (marked_behind-within w ms (k ∷ ls) (All-tail (IsWithin w) l (k ∷ ls) h))

  -- ---- separators and borders

  more-length : (cs : List (KeptCell T M)) →
      length (flat_map (λ (d : KeptCell T M). true ∷ replicate d.width false) cs) ≡ sum_by (λ (d : KeptCell T M). 1 + d.width) cs
  more-length [] = refl
  more-length (d ∷ ds) =
      let e = length-append (true ∷ replicate d.width false) (flat_map (λ (d : KeptCell T M). true ∷ replicate d.width false) ds) in
      let f = sum_by-cons (λ (d : KeptCell T M). 1 + d.width) d ds in
      let n : length (replicate d.width false) ≡ d.width = length-replicate d.width false in
      omega (arith, e, f, n, more-length ds)

  -- the columns of a row are those of its separators
  pub separators-length : (cells : List (KeptCell T M)) → length (separators_of cells) ≡ row_width cells
  separators-length [] = refl
  separators-length (c ∷ cs) =
      omega (
        arith,
        length-append (replicate c.width false) (flat_map (λ (d : KeptCell T M). true ∷ replicate d.width false) cs),
        length-replicate c.width false,
        more-length cs,
      )

module _ {T : Type 0} (M : Type 0) (frame : Frame T) where
  shown-columns : (f : ℕ → ℕ) → ((x : ℕ) → width_of (f x) ≡ 1) → (xs : List ℕ) → columns {M = M} (map (λ x. Character (f x) frame.tag) xs) ≡ length xs
  shown-columns f one [] = refl
  shown-columns f one (x ∷ xs) =
      let e = columns-cons {M = M} (Character (f x) frame.tag) (map (λ x. Character (f x) frame.tag) xs) in
      let ih = shown-columns f one xs in
      let o = one x in
      omega (arith, e, ih, o)

  -- a border is as wide as the wider of its neighbours
  pub border-columns : (above below : List Bool) → columns (border {M = M} frame above below) ≡ max (length above) (length below)
  border-columns above below =
      shown-columns (λ x. joint (get_or above x false) (get_or below x false))
      (λ x. joint_width (get_or above x false) (get_or below x false)) (range_with_len 0 (max (length above) (length below)))
      ∙ length-range_with_len 0 (max (length above) (length below))

  border-within : (w : ℕ) (above below : List Bool) → length above ≤ w → length below ≤ w → columns (border {M = M} frame above below) ≤ w
  border-within w above below h k = omega (arith, border-columns above below)

module _ {T M : Type 0} (frame : Frame T) where
  -- ---- rows

  filled_line-columns : (w : ℕ) (l : Line T M) → columns l ≤ w → columns (filled_line frame.tag w l) ≡ w
  filled_line-columns w l h =
      let e = columns-append l (repeated frame.tag 0x20 (w - columns l)) in
      omega (arith, e, h, repeated-columns M frame.tag 0x20 (w - columns l) width-space)

  cell-width : (h : ℕ) (c : KeptCell T M) → KeepsToWidth c → AllAsWide c.width (cell_lines frame h c)
  cell-width h c keeps =
      let lines : List (Line T M) = marked_behind c.marks c.lines in
      let empty : List (Line T M) = replicate (h - length c.lines) [] in
      All-map (IsAsWide c.width) (filled_line frame.tag c.width) (lines ++ empty)
      (All-weaker (IsWithin c.width) (λ (l : Line T M). IsAsWide c.width (filled_line frame.tag c.width l)) (filled_line-columns c.width) (lines ++ empty)
      (All-append (IsWithin c.width) lines empty (marked_behind-within c.width c.marks c.lines keeps)
      (All-replicate (IsWithin c.width) (h - length c.lines) [] (omega arith))))

  beside-width : (a b : ℕ) (ls rs : List (Line T M)) → length ls ≡ length rs → AllAsWide a ls → AllAsWide b rs →
      AllAsWide (a + (1 + b)) (beside frame ls rs)
  beside-width a b [] rs e h k = All-nil (IsAsWide (a + (1 + b)))
  beside-width a b (l ∷ ls) [] e h k = absurd (omega (arith, e))
  beside-width a b (l ∷ ls) (r ∷ rs) e h k =
      All-cons (IsAsWide (a + (1 + b))) (l ++ separator frame ∷ r) (beside frame ls rs)
      (let m = columns-append l (separator frame ∷ r) in
      let n = columns-cons (separator frame) r in
      let one = separator_width frame.borders in
      let left : columns l ≡ a = All-head (IsAsWide a) l ls h in
      let right : columns r ≡ b = All-head (IsAsWide b) r rs k in
      omega (arith, m, n, one, left, right))
      (beside-width a b ls rs (omega (arith, e)) (All-tail (IsAsWide a) l ls h) (All-tail (IsAsWide b) r rs k))

  abbrev more_width : List (KeptCell T M) → ℕ
  more_width cs = sum_by (λ (d : KeptCell T M). 1 + d.width) cs

  -- lines of a row's first cells, with the other cells' lines beside them
  joined-width : (h a : ℕ) (ls : List (Line T M)) (cs : List (KeptCell T M)) → length ls ≡ h → AllAsWide a ls → All (IsNoHigher h) cs →
      All KeepsToWidth cs → AllAsWide (a + more_width cs) (fold (beside frame) ls (map (cell_lines frame h) cs))
  joined-width h a ls [] n k higher keeps = subst (λ n. AllAsWide n ls) (omega arith) k
  joined-width h a ls (c ∷ cs) n k higher keeps =
      let here : IsNoHigher h c = All-head (IsNoHigher h) c cs higher in
      let e : a + (1 + c.width) + more_width cs ≡ a + more_width (c ∷ cs) = omega (arith, sum_by-cons (λ (d : KeptCell T M). 1 + d.width) c cs) in
      subst (λ n. AllAsWide n (fold (beside frame) (beside frame ls (cell_lines frame h c)) (map (cell_lines frame h) cs))) e
      (joined-width h (a + (1 + c.width)) (beside frame ls (cell_lines frame h c)) cs
      (beside-height frame ls (cell_lines frame h c) ∙ n)
      (beside-width a c.width ls (cell_lines frame h c) (n ∙ sym (cell-height frame h c here)) k
      (cell-width h c (All-head KeepsToWidth c cs keeps)))
      (All-tail (IsNoHigher h) c cs higher) (All-tail KeepsToWidth c cs keeps))

  -- each line of a row is as wide as the row
  pub row-width : (cells : List (KeptCell T M)) → All KeepsToWidth cells → AllAsWide (row_width cells) (row_lines frame cells)
  row-width [] keeps = All-nil (IsAsWide 0)
  row-width (c ∷ cs) keeps =
      let h = height (c ∷ cs) in
      let all = row_highest (c ∷ cs) in
      joined-width h c.width (cell_lines frame h c) cs (cell-height frame h c (All-head (IsNoHigher h) c cs all))
      (cell-width h c (All-head KeepsToWidth c cs keeps)) (All-tail (IsNoHigher h) c cs all) (All-tail KeepsToWidth c cs keeps)

  -- ---- the whole

  next-within : (w : ℕ) (rows : List (TableRow T M)) → All (RowWithin w) rows → length (next_separators rows) ≤ w
  next-within w [] h = omega arith
  next-within w (r ∷ rs) h = elim (is_drawn r) as (λ b. length (cond b (separators_of r.cells) (next_separators rs)) ≤ w) [
    | true ↦ let k = (All-head (RowWithin w) r rs h).1 in omega (arith, k, separators-length r.cells)
    | false ↦ next-within w rs (All-tail (RowWithin w) r rs h)
  ]

  rows-within : (w : ℕ) (waiting : List M) (rows : List (TableRow T M)) → All (RowWithin w) rows → AllWithinWidth w (rows_lines frame waiting rows)
  rows-within w waiting [] h = All-nil (IsWithin w)
  rows-within w waiting (r ∷ rs) h =
      let here = All-head (RowWithin w) r rs h in
      let rest = All-tail (RowWithin w) r rs h in
      let above = separators_of r.cells in
      let marks = waiting ++ waiting_in r.cells in
      let row : List (Line T M) = marked_before marks (row_lines frame r.cells) in
      let wide : row_width r.cells ≤ w = here.1 in
      let below : IsWithin w (border frame above (next_separators rs)) =
      border-within M frame w above (next_separators rs) (omega (arith, wide, separators-length r.cells)) (next-within w rs rest) in
      let borders : List (Line T M) = cond frame.borders (border frame above (next_separators rs) ∷ []) [] in
      elim (is_drawn r) as (λ b. AllWithinWidth w (cond b (row ++ borders ++ rows_lines frame [] rs) (rows_lines frame marks rs))) [
        | true ↦
            All-append (IsWithin w) (row ++ borders) (rows_lines frame [] rs)
            (All-append (IsWithin w) row borders
            (marked_before-within w marks (row_lines frame r.cells)
            (All-weaker (IsAsWide (row_width r.cells)) (IsWithin w) (λ l e. omega (arith, e, wide)) (row_lines frame r.cells) (row-width r.cells here.0)))
            (elim frame.borders as (λ b. AllWithinWidth {T = T} {M = M} w (cond b (border frame above (next_separators rs) ∷ []) [])) [
              | true ↦ All-cons (IsWithin w) (border frame above (next_separators rs)) [] below (All-nil (IsWithin w))
              | false ↦ All-nil (IsWithin w)
            ]))
            (rows-within w [] rs rest)
        | false ↦ rows-within w marks rs rest
      ]

  -- no line is wider than the table and its rows
  pub picture_within : (w : ℕ) (waiting : List M) (rows : List (TableRow T M)) → frame.width ≤ w → All (RowWithin w) rows →
      AllWithinWidth w (picture_lines frame waiting rows)
  picture_within w waiting rows h k =
      let above = replicate frame.width false in
      let top : Line T M = border frame above (next_separators rows) in
      let within : IsWithin w top =
      border-within M frame w above (next_separators rows) (omega (arith, h, length-replicate frame.width false)) (next-within w rows k) in
      elim (has_top frame) as (λ b. AllWithinWidth w (cond b (marked_before waiting (top ∷ rows_lines frame [] rows)) (rows_lines frame waiting rows))) [
        | true ↦
            marked_before-within w waiting (top ∷ rows_lines frame [] rows)
            (All-cons (IsWithin w) top (rows_lines frame [] rows) within (rows-within w [] rows k))
        | false ↦ rows-within w waiting rows k
      ]
