-- Cells of a row whose lines stand one after another.
use Rattle.std.proofs.Common.{◌≡◌, ◌==◌, ℕ, zero, suc, ◌+◌, ◌-◌, ◌<◌, ◌≤◌, Bool, true, false, not, ◌||◌, cond, max, List, [], ◌∷◌, ◌++◌, length, map, fold, take, drop, get_or, refl, sym, ap, ◌∙◌, arith, append_assoc, append-nil}
use Rattle.std.proofs.Math.Dec.{eqb-suc-zero, eqb-zero-suc, eqb-suc-suc}
use Rattle.std.specs.List.{flat_map, list_any, range_with_len}
use Rattle.std.proofs.lemmas.List.FromFn.{map-range_with_len_more}
use Rattle.std.proofs.lemmas.List.{length-take-le, length-drop, take-append-le, drop-append-le, take_all, get_or-take, get_or-drop, get_or_past}
use Rattle.html_render_layout_lines.specs.Line.{Line, columns, marks_line, is_empty}
use Rattle.html_render_layout_lines.specs.laws.Columns.{columns-append, columns-marks}
use Rattle.html_render_layout_buffer.specs.Lines.{BufferedLines, with_spaces}
use Rattle.html_render_layout_buffer.specs.Marked.{marked_before, marked_behind}
use Rattle.html_render_layout_buffer.specs.Padding.{repeated}
use Rattle.html_render_layout_pictures.specs.declared.cells.RowCell.{RowCell}
use Rattle.html_render_layout_pictures.specs.Picture.{KeptCell, TableRow, is_drawn, waiting_in}
use Rattle.html_render_layout_pictures.specs.laws.Heights.{marked_behind-length}
use Rattle.html_render_layout_pictures.specs.RowCells.{cell_at, cells_of, line_total}
use Rattle.html_render_layout_pictures.specs.Rows.{marked_cell, filled_at, rows_put}

-- the first element and those after it
pub first-rest : {X : Type 0} (xs : List X) (x : X) → 0 < length xs → x ≡ get_or xs 0 x → x ∷ take (length xs - 1) (drop 1 xs) ≡ xs
first-rest [] x h e = absurd (omega (arith, h))
first-rest (y ∷ xs) x h e = ap (λ z. z ∷ take (length (y ∷ xs) - 1) xs) e ∙ ap (λ zs. y ∷ zs) (take_all (length (y ∷ xs) - 1) xs (omega arith))

module _ {M : Type 0} where
  pub total-end : (cs : List (RowCell M)) (c : RowCell M) → line_total (cs ++ c ∷ []) ≡ line_total cs + c.count
  total-end [] c = omega arith
  total-end (d ∷ cs) c = omega (arith, total-end cs c)

  -- the marks that wait of a cell
  abbrev pub own_waiting : RowCell M → List M
  own_waiting c = cond (c.count == 0) c.marks.items []

module _ {T M : Type 0} where
  pub cells-length : (cs : List (RowCell M)) (ls : List (Line T M)) → length (cells_of cs ls) ≡ length cs
  cells-length [] ls = refl
  cells-length (c ∷ cs) ls = ap suc (cells-length cs (drop c.count ls))

  -- one more cell, with more lines
  pub cell-pushed : (cs : List (RowCell M)) (ls new : List (Line T M)) (c : RowCell M) → line_total cs ≡ length ls → c.count ≡ length new →
      cells_of (cs ++ c ∷ []) (ls ++ new) ≡ cells_of cs ls ++ record { width = c.width; lines = new; marks = c.marks.items } ∷ []
  cell-pushed [] [] new c e h =
      ap (λ (y : List (Line T M)). record { width = c.width; lines = y; marks = c.marks.items } ∷ []) (take_all c.count new (omega (arith, h)))
  cell-pushed [] (l ∷ ls) new c e h = absurd (omega (arith, e))
  cell-pushed (d ∷ cs) ls new c e h =
      let within : d.count ≤ length ls = omega (arith, e) in
      let first : take d.count (ls ++ new) ≡ take d.count ls = take-append-le d.count ls new within in
      let rest : drop d.count (ls ++ new) ≡ drop d.count ls ++ new = drop-append-le d.count ls new within in
      let total : line_total cs ≡ length (drop d.count ls) = omega (arith, e, length-drop d.count ls) in
      ap (λ (y : List (Line T M)). record { width = d.width; lines = y; marks = d.marks.items } ∷ cells_of (cs ++ c ∷ []) (drop d.count (ls ++ new))) first
      ∙ ap (λ (y : List (Line T M)). cell_at d ls ∷ cells_of (cs ++ c ∷ []) y) rest
      ∙ ap (λ (y : List (KeptCell T M)). cell_at d ls ∷ y) (cell-pushed cs (drop d.count ls) new c total h)

  pub empty-pushed : (cs : List (RowCell M)) (ls : List (Line T M)) (c : RowCell M) → line_total cs ≡ length ls → c.count ≡ 0 →
      cells_of (cs ++ c ∷ []) ls ≡ cells_of cs ls ++ record { width = c.width; lines = []; marks = c.marks.items } ∷ []
  empty-pushed cs ls c e h =
      ap (λ (y : List (Line T M)). cells_of (cs ++ c ∷ []) y) (sym (append-nil ls)) ∙ cell-pushed cs ls [] c e h

  -- a row of one cell has one
  pub one-counted : (xs cs : List (RowCell M)) (ls : List (Line T M)) (row : List (KeptCell T M)) → xs ≡ cs → cells_of cs ls ≡ row →
      length row ≡ 1 → length xs ≡ 1
  one-counted xs cs ls row same is one = ap length same ∙ sym (cells-length cs ls) ∙ ap length is ∙ one

  pub only-row : (cs : List (RowCell M)) (ls : List (Line T M)) (c : RowCell M) → cs ≡ c ∷ [] → line_total cs ≡ length ls →
      cells_of cs ls ≡ record { width = c.width; lines = ls; marks = c.marks.items } ∷ []
  only-row cs ls c e h =
      let few : length ls ≤ c.count = omega (arith, sym h ∙ ap line_total e) in
      ap (λ ds. cells_of ds ls) e
      ∙ ap (λ (y : List (Line T M)). record { width = c.width; lines = y; marks = c.marks.items } ∷ []) (take_all c.count ls few)

  pub only-count : (cs : List (RowCell M)) (ls : List (Line T M)) (c : RowCell M) → cs ≡ c ∷ [] → line_total cs ≡ length ls → c.count ≡ length ls
  only-count cs ls c e h = omega (arith, sym (ap line_total e) ∙ h)

  pub some-lines : (ls : List (Line T M)) → (length ls ≡ 0 → ⊥) → 0 < length ls
  some-lines [] h = absurd (h refl)
  some-lines (l ∷ ls) h = omega arith

  -- ---- whether there are lines, and which marks wait

  zero-taken : (n : ℕ) (ls : List (Line T M)) → n ≤ length ls → is_empty (take n ls) ≡ (n == 0)
  zero-taken zero ls h = refl
  zero-taken (suc n) [] h = absurd (omega arith)
  zero-taken (suc n) (l ∷ ls) h = eqb-suc-zero (length (take n ls)) ∙ sym (eqb-suc-zero n)

  pub any-lines : (cs : List (RowCell M)) (ls : List (Line T M)) → line_total cs ≡ length ls →
      list_any (λ (c : KeptCell T M). not (is_empty c.lines)) (cells_of cs ls) ≡ not (length ls == 0)
  any-lines [] [] e = refl
  any-lines [] (l ∷ ls) e = absurd (omega (arith, e))
  any-lines (c ∷ cs) ls e =
      let filled : KeptCell T M → Bool = λ d. not (is_empty d.lines) in
      let total : line_total cs ≡ length (drop c.count ls) = omega (arith, e, length-drop c.count ls) in
      ap (λ b. not b || list_any filled (cells_of cs (drop c.count ls))) (zero-taken c.count ls (omega (arith, e)))
      ∙ ap (λ b. not (c.count == 0) || b) (any-lines cs (drop c.count ls) total)
      ∙ by c.count ls (omega (arith, e))
    where
      by : (n : ℕ) (ls : List (Line T M)) → n ≤ length ls → (not (n == 0) || not (length (drop n ls) == 0)) ≡ not (length ls == 0)
      by zero ls h = refl
      by (suc n) [] h = absurd (omega arith)
      by (suc n) (l ∷ ls) h =
          ap (λ b. not b || not (length (drop n ls) == 0)) (eqb-suc-zero n) ∙ sym (ap not (eqb-suc-zero (length ls)))

  pub all-waiting : (cs : List (RowCell M)) (ls : List (Line T M)) → line_total cs ≡ length ls → flat_map own_waiting cs ≡ waiting_in (cells_of cs ls)
  all-waiting [] ls e = refl
  all-waiting (c ∷ cs) ls e =
      let total : line_total cs ≡ length (drop c.count ls) = omega (arith, e, length-drop c.count ls) in
      ap (λ b. cond b c.marks.items [] ++ flat_map own_waiting cs) (sym (zero-taken c.count ls (omega (arith, e))))
      ∙ ap (λ ms. cond (is_empty (take c.count ls)) c.marks.items [] ++ ms) (all-waiting cs (drop c.count ls) total)

  -- ---- widths and heights

  pub cells-widths : (cs : List (RowCell M)) (ls : List (Line T M)) →
      map (λ (c : KeptCell T M). c.width) (cells_of cs ls) ≡ map (λ (c : RowCell M). c.width) cs
  cells-widths [] ls = refl
  cells-widths (c ∷ cs) ls = ap (λ ws. c.width ∷ ws) (cells-widths cs (drop c.count ls))

  pub highest : (n : ℕ) (cs : List (RowCell M)) (ls : List (Line T M)) → line_total cs ≤ length ls →
      fold (λ h (c : RowCell M). max h c.count) n cs ≡ fold (λ h (c : KeptCell T M). max h (length c.lines)) n (cells_of cs ls)
  highest n [] ls e = refl
  highest n (c ∷ cs) ls e =
      let own : length (take c.count ls) ≡ c.count = length-take-le c.count ls (omega (arith, e)) in
      highest (max n c.count) cs (drop c.count ls) (omega (arith, e, length-drop c.count ls))
      ∙ ap (λ k. fold (λ h (d : KeptCell T M). max h (length d.lines)) (max n k) (cells_of cs (drop c.count ls))) (sym own)

  -- ---- a cell's own line

  get-marked : (ms : List M) (ls : List (Line T M)) (k : ℕ) → k < length ls →
      get_or (marked_behind ms ls) k [] ≡ get_or ls k [] ++ cond (k + 1 == length ls) (marks_line ms) []
  get-marked ms [] k h = absurd (omega arith)
  get-marked ms (l ∷ []) zero h = refl
  get-marked ms (l ∷ []) (suc k) h = absurd (omega arith)
  get-marked ms (l ∷ j ∷ ls) zero h =
      sym (append-nil l)
      ∙ ap (λ b. l ++ cond b (marks_line ms) []) (sym (eqb-suc-suc 0 (suc (length ls)) ∙ eqb-zero-suc (length ls)))
  get-marked ms (l ∷ j ∷ ls) (suc k) h =
      let next : suc (k + 1) ≡ suc k + 1 = omega arith in
      let same : (k + 1 == length (j ∷ ls)) ≡ (suc k + 1 == length (l ∷ j ∷ ls)) =
      sym (eqb-suc-suc (k + 1) (length (j ∷ ls))) ∙ ap (λ n. n == length (l ∷ j ∷ ls)) next in
      get-marked ms (j ∷ ls) k (omega arith) ∙ ap (λ b. get_or (j ∷ ls) k [] ++ cond b (marks_line ms) []) same

  -- a cell that isn't so high
  pub none-here : (tag : T) (b : BufferedLines T M) (c : RowCell M) (ls : List (Line T M)) (k : ℕ) → c.count ≤ length ls → c.count ≤ k →
      with_spaces b tag c.width ≡ record { lines = b.lines; line = b.line ++ filled_at tag k (marked_cell (cell_at c ls)) }
  none-here tag b c ls k h n =
      let lines : List (Line T M) = marked_behind c.marks.items (take c.count ls) in
      let none : get_or lines k [] ≡ [] = get_or_past lines k [] (omega (arith, n, marked_behind-length c.marks.items (take c.count ls), length-take-le c.count ls h)) in
      let whole : c.width ≡ c.width - 0 = omega arith in
      ap (λ n. record { lines = b.lines; line = b.line ++ repeated tag 0x20 n }) whole
      ∙ ap (λ (own : Line T M). record { lines = b.lines; line = b.line ++ (own ++ repeated tag 0x20 (c.width - columns own)) }) (sym none)

  pub line-here : (tag : T) (old new : BufferedLines T M) (c : RowCell M) (ls : List (Line T M)) (start k missing : ℕ) → k < c.count →
      start + c.count ≤ length ls →
      new ≡ record { lines = old.lines; line = (old.line ++ get_or ls (start + k) []) ++ cond (k + 1 == c.count) (marks_line c.marks.items) [] } →
      missing ≡ c.width - columns (get_or ls (start + k) []) →
      with_spaces new tag missing ≡ record { lines = old.lines; line = old.line ++ filled_at tag k (marked_cell (cell_at c (drop start ls))) }
  line-here tag old new c ls start k missing h w e m =
      let own : Line T M = get_or ls (start + k) [] in
      let mine : List (Line T M) = take c.count (drop start ls) in
      let count : length mine ≡ c.count = length-take-le c.count (drop start ls) (omega (arith, w, length-drop start ls)) in
      let marks : Line T M = cond (k + 1 == c.count) (marks_line c.marks.items) [] in
      let line : get_or (marked_behind c.marks.items mine) k [] ≡ own ++ marks =
      get-marked c.marks.items mine k (omega (arith, h, count))
      ∙ ap (λ l. l ++ cond (k + 1 == length mine) (marks_line c.marks.items) []) (get_or-take c.count (drop start ls) k [] h ∙ get_or-drop start ls k [])
      ∙ ap (λ n. own ++ cond (k + 1 == n) (marks_line c.marks.items) []) count in
      let width : columns (own ++ marks) ≡ columns own = columns-append own marks ∙ no-columns (k + 1 == c.count) in
      rw (e, m) (
      ap (λ (l : Line T M). record { lines = old.lines; line = l })
      (ap (λ l. l ++ repeated tag 32 (c.width - columns own)) (append_assoc old.line own marks)
      ∙ append_assoc old.line (own ++ marks) (repeated tag 32 (c.width - columns own))
      ∙ ap (λ n. old.line ++ ((own ++ marks) ++ repeated tag 32 (c.width - n))) (sym width)
      ∙ ap (λ (l : Line T M). old.line ++ (l ++ repeated tag 32 (c.width - columns l))) (sym line))
      )
    where
      no-columns : (b : Bool) → columns (get_or ls (start + k) []) + columns (cond b (marks_line {T = T} c.marks.items) []) ≡ columns (get_or ls (start + k) [])
      no-columns true = omega (arith, columns-marks T c.marks.items)
      no-columns false = omega arith

  -- ---- rows

  pub row-put : (b p0 p1 p2 : BufferedLines T M) (ls : List (Line T M)) (l : Line T M) → p0 ≡ rows_put b ls →
      p1 ≡ record { lines = p0.lines; line = p0.line ++ l } → p2 ≡ record { lines = p1.lines ++ p1.line ∷ []; line = [] } →
      p2 ≡ rows_put b (ls ++ l ∷ [])
  row-put b p0 p1 p2 [] l e f g = rw (g, f, e) refl
  row-put b p0 p1 p2 (k ∷ ls) l e f g =
      rw (g, f, e) (ap (λ (y : List (Line T M)). record { lines = y; line = [] }) (append_assoc b.lines ((b.line ++ k) ∷ ls) (l ∷ [])))

  -- one more line of a row, by its number
  pub next-put : (line : ℕ → Line T M) (b p0 p1 p2 : BufferedLines T M) (n : ℕ) → p0 ≡ rows_put b (map line (range_with_len 0 n)) →
      p1 ≡ record { lines = p0.lines; line = p0.line ++ line n } → p2 ≡ record { lines = p1.lines ++ p1.line ∷ []; line = [] } →
      p2 ≡ rows_put b (map line (range_with_len 0 (n + 1)))
  next-put line b p0 p1 p2 n e f h =
      let here : 0 + n ≡ n = omega arith in
      row-put b p0 p1 p2 (map line (range_with_len 0 n)) (line n) e f h
      ∙ ap (λ (ls : List (Line T M)). rows_put b ls) (sym (map-range_with_len_more line 0 n n here))

  pub rows-drawn : (b : BufferedLines T M) (ms : List M) (ls rows : List (Line T M)) → 0 < length rows → b ≡ record { lines = ls; line = marks_line ms } →
      rows_put b rows ≡ record { lines = ls ++ marked_before ms rows; line = [] }
  rows-drawn b ms ls [] h e = absurd (omega arith)
  rows-drawn b ms ls (r ∷ rows) h e = rw e refl

  pub drawn-some : (row : TableRow T M) → is_drawn row ≡ true → 0 < length row.cells
  drawn-some row e = by row.cells e
    where
      by : (cs : List (KeptCell T M)) → is_drawn (record row { cells = cs }) ≡ true → 0 < length cs
      by [] e = absurd-false row.has_placeholder e
        where
          absurd-false : (b : Bool) → is_drawn {T = T} {M = M} (record { cells = []; has_placeholder = b }) ≡ true → 0 < 0
          absurd-false true e = cc
          absurd-false false e = cc
      by (c ∷ cs) e = omega arith

pub ruleset drawn_rows = (drawn-some)
