-- Lines beside each other and marks at their ends, to a map of tags and to the visible characters.
use Rattle.std.proofs.Common.{◌≡◌, ℕ, ◌+◌, cond, eqb, List, [], ◌∷◌, ◌++◌, refl, ap, ◌∙◌, append-nil}
use Rattle.std.proofs.lemmas.List.{map-append}
use Rattle.std.proofs.lemmas.List.Concat.{flat_map-append}
use Rattle.std.proofs.lemmas.List.Sums.{sum_by-append}
use Rattle.html_render_layout_lines.specs.Line.{Line, marks_line}
use Rattle.html_render_layout_lines.specs.Tags.{element_with, line_with, lines_with}
use Rattle.html_render_layout_lines.specs.Visible.{visible_in_line, visible_in_lines}
use Rattle.html_render_layout_lines.specs.laws.Tags.{marks-with}
use Rattle.html_render_layout_lines.specs.laws.Visible.{visible_in_line-append, visible_in_line-marks}
use Rattle.html_render_layout_buffer.specs.Marked.{marked_behind}
use Rattle.html_render_layout_pictures.specs.Visible.{count}

pub lines-append : {T M : Type 0} (ls ks : List (Line T M)) → visible_in_lines (ls ++ ks) ≡ visible_in_lines ls ++ visible_in_lines ks
lines-append {T} {M} ls ks = flat_map-append (λ (l : Line T M). visible_in_line l) ls ks

pub marked_behind_same : {T M : Type 0} (ms : List M) (ls : List (Line T M)) → visible_in_lines (marked_behind ms ls) ≡ visible_in_lines ls
marked_behind_same ms [] = refl
marked_behind_same {T} ms (l ∷ []) = ap (λ r. r ++ []) (visible_in_line-append l (marks_line ms)
    ∙ ap (λ r. visible_in_line l ++ r) (visible_in_line-marks T ms) ∙ append-nil (visible_in_line l))
marked_behind_same ms (l ∷ k ∷ ls) = ap (λ r. visible_in_line l ++ r) (marked_behind_same ms (k ∷ ls))

pub count-append : (c : ℕ) (a b : List ℕ) → count c (a ++ b) ≡ count c a + count c b
count-append c a b = sum_by-append (λ x. cond (eqb x c) 1 0) a b

module _ {T U M : Type 0} (f : T → U) where
  pub marked_behind-with : (ms : List M) (ls : List (Line T M)) → lines_with f (marked_behind ms ls) ≡ marked_behind ms (lines_with f ls)
  marked_behind-with ms [] = refl
  marked_behind-with ms (l ∷ []) =
      ap (λ x. x ∷ []) (map-append (element_with f) l (marks_line ms) ∙ ap (λ x. line_with f l ++ x) (marks-with f ms))
  marked_behind-with ms (l ∷ k ∷ ls) = ap (λ xs. line_with f l ∷ xs) (marked_behind-with ms (k ∷ ls))
