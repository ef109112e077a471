-- A row of one cell.
use Rattle.std.proofs.Common.{◌≡◌, ℕ, ◌-◌, ◌<◌, max, List, [], ◌∷◌, ◌++◌, Some, length, replicate, get_or, refl, sym, ap, ◌∙◌, arith, append-nil}
use Rattle.std.proofs.lemmas.List.{nil_from_length}
use Rattle.html_render_layout_lines.specs.Line.{Line}
use Rattle.html_render_layout_buffer.specs.Marked.{marked_behind, marked_before}
use Rattle.html_render_layout_buffer.specs.Padding.{filled}
use Rattle.html_render_layout_pictures.specs.declared.picture.Frame.{Frame}
use Rattle.html_render_layout_pictures.specs.Picture.{KeptCell, row_lines}

module _ {T M : Type 0} (frame : Frame T) where
  by_lines : (w : ℕ) (ms : List M) (ls : List (Line T M)) → 0 < length ls →
      row_lines frame (record { width = w; lines = ls; marks = ms } ∷ []) ≡ filled (Some frame.tag) w (marked_behind ms ls)
  by_lines w ms ls h =
      let none : max 1 (length ls) - length ls ≡ 0 = omega (arith, h) in
      ap (λ n. filled (Some frame.tag) w (marked_behind ms ls ++ replicate n [])) none
      ∙ ap (λ l. filled (Some frame.tag) w l) (append-nil (marked_behind ms ls))

  -- an only cell's lines, filled
  pub only_cell : (c : KeptCell T M) → 0 < length c.lines → row_lines frame (c ∷ []) ≡ filled (Some frame.tag) c.width (marked_behind c.marks c.lines)
  only_cell c h = by_lines c.width c.marks c.lines h

  -- an only cell without lines has an empty one
  pub only_blank_cell : (c : KeptCell T M) → length c.lines ≡ 0 → row_lines frame (c ∷ []) ≡ filled (Some frame.tag) c.width ([] ∷ [])
  only_blank_cell c none =
      ap (λ ls. row_lines frame (record { width = c.width; lines = ls; marks = c.marks } ∷ [])) (nil_from_length c.lines none)

-- lines behind which no marks are put
pub none_behind : {T M : Type 0} (ms : List M) (ls : List (Line T M)) → ms ≡ [] → marked_behind ms ls ≡ ls
none_behind {T} {M} ms ls none = ap (λ ns. marked_behind ns ls) none ∙ by ls
  where
    by : (ls : List (Line T M)) → marked_behind [] ls ≡ ls
    by [] = refl
    by (l ∷ []) = ap (λ k. k ∷ []) (append-nil l)
    by (l ∷ k ∷ ls) = ap (λ y. l ∷ y) (by (k ∷ ls))

-- lines before which no marks are put
pub none_before : {T M : Type 0} (ms : List M) (ls : List (Line T M)) → ms ≡ [] → marked_before ms ls ≡ ls
none_before {T} {M} ms ls none = ap (λ ns. marked_before ns ls) none ∙ by ls
  where
    by : (ls : List (Line T M)) → marked_before [] ls ≡ ls
    by [] = refl
    by (l ∷ ls) = refl

-- the first of one is the only one
pub one_cell : {X : Type 0} (xs : List X) (x : X) → length xs ≡ 1 → x ≡ get_or xs 0 x → xs ≡ x ∷ []
one_cell [] x h e = absurd (omega (arith, h))
one_cell (y ∷ []) x h e = ap (λ z. z ∷ []) (sym e)
one_cell (y ∷ z ∷ xs) x h e = absurd (omega (arith, h))
