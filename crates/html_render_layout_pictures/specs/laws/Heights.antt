-- How many lines a row has, and that each cell has as many.
use Rattle.std.proofs.Common.{◌≡◌, ℕ, suc, ◌-◌, ◌≤◌, ◌++◌, List, [], ◌∷◌, All, length, max, fold, replicate, refl, ap, arith}
use Rattle.std.proofs.lemmas.List.{length-append, length-map, length-replicate}
use Rattle.std.proofs.lemmas.List.Elements.{All-nil, All-cons}
use Rattle.html_render_layout_lines.specs.Line.{Line}
use Rattle.html_render_layout_buffer.specs.Marked.{marked_behind}
use Rattle.html_render_layout_buffer.specs.Padding.{filled_line}
use Rattle.html_render_layout_pictures.specs.declared.picture.Frame.{Frame}
use Rattle.html_render_layout_pictures.specs.Picture.{KeptCell, cell_lines, beside, height}

-- a cell isn't higher than this
abbrev pub IsNoHigher : {T M : Type 0} → ℕ → KeptCell T M → Type 0
IsNoHigher h c = length c.lines ≤ h

module _ {T M : Type 0} where
  abbrev highest : ℕ → List (KeptCell T M) → ℕ
  highest n cells = fold (λ h (c : KeptCell T M). max h (length c.lines)) n cells

  highest-more : (n : ℕ) (cells : List (KeptCell T M)) → n ≤ highest n cells
  highest-more n [] = omega arith
  highest-more n (c ∷ cs) = let e = highest-more (max n (length c.lines)) cs in omega (arith, e)

  -- a row has a line
  pub row_some : (cells : List (KeptCell T M)) → 1 ≤ height cells
  row_some cells = highest-more 1 cells

  none_higher : (n : ℕ) (cells : List (KeptCell T M)) → All (IsNoHigher (highest n cells)) cells
  none_higher n [] = All-nil (IsNoHigher n)
  none_higher n (c ∷ cs) =
      let e = highest-more (max n (length c.lines)) cs in
      All-cons (IsNoHigher (highest n (c ∷ cs))) c cs (omega (arith, e)) (none_higher (max n (length c.lines)) cs)

  -- no cell is higher than its row
  pub row_highest : (cells : List (KeptCell T M)) → All (IsNoHigher (height cells)) cells
  row_highest cells = none_higher 1 cells

  pub marked_behind-length : (ms : List M) (ls : List (Line T M)) → length (marked_behind ms ls) ≡ length ls
  marked_behind-length ms [] = refl
  marked_behind-length ms (l ∷ []) = refl
  marked_behind-length ms (l ∷ k ∷ ls) = ap suc (marked_behind-length ms (k ∷ ls))

  module _ (frame : Frame T) where
    -- a cell that is no higher has as many lines as its row
    pub cell-height : (h : ℕ) (c : KeptCell T M) → IsNoHigher h c → length (cell_lines frame h c) ≡ h
    cell-height h c no_higher =
        let lines : List (Line T M) = marked_behind c.marks c.lines in
        let empty : List (Line T M) = replicate (h - length c.lines) [] in
        let e = length-map (lines ++ empty) (filled_line frame.tag c.width) in
        let n : length empty ≡ h - length c.lines = length-replicate (h - length c.lines) [] in
        omega (arith, e, length-append lines empty, n, marked_behind-length c.marks c.lines, no_higher)

    pub beside-height : (ls rs : List (Line T M)) → length (beside frame ls rs) ≡ length ls
    beside-height [] rs = refl
    beside-height (l ∷ ls) [] = refl
    beside-height (l ∷ ls) (r ∷ rs) = ap suc (beside-height ls rs)
