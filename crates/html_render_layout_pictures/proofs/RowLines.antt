-- The lines of a row, one by one.
use Rattle.std.proofs.Common.{◌≡◌, ◌==◌, false, ℕ, zero, suc, ◌-◌, ◌<◌, List, [], ◌∷◌, ◌++◌, All, length, map, fold, replicate, get_or, Some, refl, sym, ap, ◌∙◌, arith, append_assoc, append-nil}
use Rattle.std.specs.List.{range_with_len}
use Rattle.std.proofs.lemmas.List.{length-append, length-replicate}
use Rattle.std.proofs.lemmas.List.FromFn.{fill_by_all, length-map-range_with_len}
use Rattle.std.proofs.lemmas.Bool.{ne_eqb}
use Rattle.std.proofs.lemmas.List.Elements.{All-head, All-tail}
use Rattle.html_render_layout_lines.specs.Line.{Line}
use Rattle.html_render_layout_buffer.specs.Marked.{marked_behind}
use Rattle.html_render_layout_buffer.specs.Padding.{filled, filled_line}
use Rattle.html_render_layout_pictures.specs.declared.picture.Frame.{Frame}
use Rattle.html_render_layout_pictures.specs.Picture.{KeptCell, beside, cell_lines, height, row_lines}
use Rattle.html_render_layout_pictures.specs.Rows.{marked_cell, filled_at, row_line, cells_behind, separator}
use Rattle.html_render_layout_pictures.specs.laws.Heights.{IsNoHigher, row_highest, row_some, marked_behind-length}

-- ---- a cell's lines by their numbers

get-none : {T M : Type 0} (n k : ℕ) → get_or {A = Line T M} (replicate n []) k [] ≡ []
get-none zero k = refl
get-none (suc n) zero = refl
get-none (suc n) (suc k) = get-none n k

get-lengthened : {T M : Type 0} (ls : List (Line T M)) (n k : ℕ) → get_or (ls ++ replicate n []) k [] ≡ get_or ls k []
get-lengthened {T} {M} [] n k = get-none {T = T} {M = M} n k
get-lengthened (l ∷ ls) n zero = refl
get-lengthened (l ∷ ls) n (suc k) = get-lengthened ls n k

module _ {T M : Type 0} (frame : Frame T) where
  abbrev own : KeptCell T M → ℕ → Line T M
  own c n = filled_at frame.tag n (marked_cell c)

  cell_by_number : (h : ℕ) (c : KeptCell T M) → IsNoHigher h c → cell_lines frame h c ≡ map (own c) (range_with_len 0 h)
  cell_by_number h c no_higher =
      let lines : List (Line T M) = marked_behind c.marks c.lines in
      let empty : List (Line T M) = replicate (h - length c.lines) [] in
      let all : List (Line T M) = lines ++ empty in
      let n : length empty ≡ h - length c.lines = length-replicate (h - length c.lines) [] in
      let long : length all ≡ h = omega (arith, length-append lines empty, n, marked_behind-length c.marks c.lines, no_higher) in
      let listed : all ≡ map (λ n. get_or lines n []) (range_with_len 0 h) =
      fill_by_all (λ n. get_or lines n []) all h [] long (λ k less. get-lengthened lines (h - length c.lines) k) in
      ap (filled (Some frame.tag) c.width) listed ∙ mapped (range_with_len 0 h)
    where
      mapped : (ns : List ℕ) → map (filled_line frame.tag c.width) (map (λ n. get_or (marked_behind c.marks c.lines) n []) ns) ≡ map (own c) ns
      mapped [] = refl
      mapped (n ∷ ns) = ap (λ ls. own c n ∷ ls) (mapped ns)

  -- ---- lines beside others

  beside_mapped : (f g : ℕ → Line T M) (ns : List ℕ) → beside frame (map f ns) (map g ns) ≡ map (λ n. f n ++ separator frame ∷ g n) ns
  beside_mapped f g [] = refl
  beside_mapped f g (n ∷ ns) = ap (λ ls. (f n ++ separator frame ∷ g n) ∷ ls) (beside_mapped f g ns)

  -- what stands on a line behind the first cell
  abbrev behind : List (KeptCell T M) → ℕ → Line T M
  behind cs n = cells_behind frame n cs

  with_none : (f : ℕ → Line T M) (ns : List ℕ) → map f ns ≡ map (λ n. f n ++ []) ns
  with_none f [] = refl
  with_none f (n ∷ ns) = ap (λ l. l ∷ map f ns) (sym (append-nil (f n))) ∙ ap (λ ls. (f n ++ []) ∷ ls) (with_none f ns)

  with_next : (f : ℕ → Line T M) (c : KeptCell T M) (cs : List (KeptCell T M)) (ns : List ℕ) →
      map (λ n. (f n ++ separator frame ∷ own c n) ++ behind cs n) ns ≡ map (λ n. f n ++ behind (c ∷ cs) n) ns
  with_next f c cs [] = refl
  with_next f c cs (n ∷ ns) =
      ap (λ l. l ∷ map (λ n. (f n ++ separator frame ∷ own c n) ++ behind cs n) ns) (append_assoc (f n) (separator frame ∷ own c n) (behind cs n))
      ∙ ap (λ ls. (f n ++ behind (c ∷ cs) n) ∷ ls) (with_next f c cs ns)

  all_beside : (h : ℕ) (f : ℕ → Line T M) (cs : List (KeptCell T M)) → All (IsNoHigher h) cs →
      fold (beside frame) (map f (range_with_len 0 h)) (map (cell_lines frame h) cs) ≡ map (λ n. f n ++ behind cs n) (range_with_len 0 h)
  all_beside h f [] no_higher = with_none f (range_with_len 0 h)
  all_beside h f (c ∷ cs) no_higher =
      let rest : List (List (Line T M)) = map (cell_lines frame h) cs in
      ap (λ ls. fold (beside frame) (beside frame (map f (range_with_len 0 h)) ls) rest)
      (cell_by_number h c (All-head (IsNoHigher h) c cs no_higher))
      ∙ ap (λ ls. fold (beside frame) ls rest) (beside_mapped f (own c) (range_with_len 0 h))
      ∙ all_beside h (λ n. f n ++ separator frame ∷ own c n) cs (All-tail (IsNoHigher h) c cs no_higher)
      ∙ with_next f c cs (range_with_len 0 h)

  -- the lines of a row, one by one
  pub row_lines_by_number : (cs : List (KeptCell T M)) → (length cs == 0) ≡ false →
      map (λ n. row_line frame n (map marked_cell cs)) (range_with_len 0 (height cs)) ≡ row_lines frame cs
  row_lines_by_number [] some = cc
  row_lines_by_number (c ∷ cs) some =
      let h = height (c ∷ cs) in
      let no_higher = row_highest (c ∷ cs) in
      sym (all_beside h (own c) cs (All-tail (IsNoHigher h) c cs no_higher))
      ∙ ap (λ ls. fold (beside frame) ls (map (cell_lines frame h) cs)) (sym (cell_by_number h c (All-head (IsNoHigher h) c cs no_higher)))

  -- a row has a line
  pub some_row_lines : (cs : List (KeptCell T M)) → 0 < length cs → 0 < length (row_lines frame cs)
  some_row_lines cs h =
      let line : ℕ → Line T M = λ n. row_line frame n (map marked_cell cs) in
      let some : (length cs == 0) ≡ false = ne_eqb (length cs) 0 (λ e. absurd (omega (arith, e, h))) in
      let same = ap (λ (ls : List (Line T M)). length ls) (row_lines_by_number cs some) in
      omega (arith, same, length-map-range_with_len line 0 (height cs), row_some cs)
