-- The visible characters of lines that are put together.
use Rattle.std.proofs.Common.{◌≡◌, List, [], ◌∷◌, ◌++◌, refl, sym, ap, ◌∙◌, append_assoc}
use Rattle.std.proofs.lemmas.List.{append-nil}
use Rattle.html_render_layout_lines.specs.declared.line.Element.TheVariants as element
use Rattle.html_render_layout_lines.specs.Line.{Line, marks_line}
use Rattle.html_render_layout_lines.specs.Visible.{if_visible, visible_in_line, visible_in_lines}

pub visible_in_line-append : {T M : Type 0} (a b : Line T M) → visible_in_line (a ++ b) ≡ visible_in_line a ++ visible_in_line b
visible_in_line-append [] b = refl
visible_in_line-append (element.Character c tag ∷ a) b = ap (λ r. if_visible c ++ r) (visible_in_line-append a b)
    ∙ sym (append_assoc (if_visible c) (visible_in_line a) (visible_in_line b))
visible_in_line-append (element.Mark m ∷ a) b = visible_in_line-append a b

pub visible_in_lines-push : {T M : Type 0} (ls : List (Line T M)) (l : Line T M) →
    visible_in_lines (ls ++ l ∷ []) ≡ visible_in_lines ls ++ visible_in_line l
visible_in_lines-push [] l = append-nil (visible_in_line l)
visible_in_lines-push (x ∷ ls) l = ap (λ r. visible_in_line x ++ r) (visible_in_lines-push ls l)
    ∙ sym (append_assoc (visible_in_line x) (visible_in_lines ls) (visible_in_line l))

pub visible_in_line-marks : (T : Type 0) {M : Type 0} (ms : List M) → visible_in_line (marks_line {T = T} ms) ≡ []
visible_in_line-marks T [] = refl
visible_in_line-marks T (m ∷ ms) = visible_in_line-marks T ms
