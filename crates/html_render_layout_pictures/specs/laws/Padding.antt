-- What padding leaves as it is.
use Rattle.std.proofs.Common.{◌≡◌, ℕ, suc, zero, ◌-◌, ◌≤◌, List, [], ◌∷◌, ◌++◌, map, Option, Some, None, option_map, refl, sym, ap, ◌∙◌, arith, append-nil}
use Rattle.std.proofs.lemmas.List.{map-append}
use Rattle.std.proofs.lemmas.List.Elements.{All-nil, All-cons, All-head, All-tail}
use Rattle.html_render_layout_lines.specs.declared.line.Element.TheVariants.{Character}
use Rattle.html_render_layout_lines.specs.Character.{width_of}
use Rattle.html_render_layout_lines.specs.Line.{Line, columns, AllWithinWidth}
use Rattle.html_render_layout_lines.specs.Tags.{element_with, line_with, lines_with}
use Rattle.html_render_layout_lines.specs.Visible.{is_visible, visible_in_line, visible_in_lines}
use Rattle.html_render_layout_lines.specs.laws.Tags.{columns-with}
use Rattle.html_render_layout_lines.specs.laws.Visible.{visible_in_line-append}
use Rattle.html_render_layout_lines.specs.laws.Columns.{columns-append, columns-cons, width-space}
use Rattle.html_render_layout_buffer.specs.Padding.{repeated, filled_line, filled}

-- ---- under whatever tags

pub repeated-with : {T U M : Type 0} (f : T → U) (tag : T) (c n : ℕ) → line_with f (repeated {M = M} tag c n) ≡ repeated (f tag) c n
repeated-with f tag c zero = refl
repeated-with f tag c (suc n) = ap (λ l. Character c (f tag) ∷ l) (repeated-with f tag c n)

filled_line-with : {T U M : Type 0} (f : T → U) (tag : T) (w : ℕ) (l : Line T M) →
    line_with f (filled_line tag w l) ≡ filled_line (f tag) w (line_with f l)
filled_line-with f tag w l =
    map-append (element_with f) l (repeated tag 0x20 (w - columns l))
    ∙ ap (λ x. line_with f l ++ x) (repeated-with f tag 0x20 (w - columns l))
    ∙ ap (λ n. line_with f l ++ repeated (f tag) 0x20 (w - n)) (sym (columns-with f l))

pub filled-with : {T U M : Type 0} (f : T → U) (padding : Option T) (w : ℕ) (ls : List (Line T M)) →
    lines_with f (filled padding w ls) ≡ filled (option_map f padding) w (lines_with f ls)
filled-with f None w ls = refl
filled-with {T} {U} {M} f (Some tag) w ls = by ls
  where
    by : (ls : List (Line T M)) → lines_with f (map (filled_line tag w) ls) ≡ map (filled_line (f tag) w) (lines_with f ls)
    by [] = refl
    by (l ∷ ls) = ap (λ x. x ∷ lines_with f (map (filled_line tag w) ls)) (filled_line-with f tag w l)
        ∙ ap (λ xs. filled_line (f tag) w (line_with f l) ∷ xs) (by ls)

-- ---- a line that is within the width stays so

-- each character takes a column
pub repeated-columns : {T : Type 0} (M : Type 0) (tag : T) (c n : ℕ) → width_of c ≡ 1 → columns (repeated {M = M} tag c n) ≡ n
repeated-columns M tag c zero one = refl
repeated-columns M tag c (suc n) one =
    let e = columns-cons {M = M} (Character c tag) (repeated tag c n) in omega (arith, e, one, repeated-columns M tag c n one)

filled_line-within : {T M : Type 0} (tag : T) (w : ℕ) (l : Line T M) → columns l ≤ w → columns (filled_line tag w l) ≤ w
filled_line-within {T} {M} tag w l h =
    omega (arith, h, columns-append l (repeated tag 0x20 (w - columns l)), repeated-columns M tag 0x20 (w - columns l) width-space)

pub filled-within : {T M : Type 0} (padding : Option T) (w : ℕ) (ls : List (Line T M)) → AllWithinWidth w ls →
    AllWithinWidth w (filled padding w ls)
filled-within None w ls h = h
filled-within {T} {M} (Some tag) w ls h = by ls h
  where
    by : (ls : List (Line T M)) → AllWithinWidth w ls → AllWithinWidth w (map (filled_line tag w) ls)
    by [] h = All-nil (λ (l : Line T M). columns l ≤ w)
    by (l ∷ ls) h =
        All-cons (λ (l : Line T M). columns l ≤ w) (filled_line tag w l) (map (filled_line tag w) ls)
        (filled_line-within tag w l (All-head (λ (l : Line T M). columns l ≤ w) l ls h))
        (by ls (All-tail (λ (l : Line T M). columns l ≤ w) l ls h))

-- ---- spaces aren't visible

spaces-visible : {T : Type 0} (M : Type 0) (tag : T) (n : ℕ) → visible_in_line (repeated {M = M} tag 0x20 n) ≡ []
unfolding is_visible
spaces-visible M tag zero = refl
spaces-visible M tag (suc n) = spaces-visible M tag n

pub filled-visible : {T M : Type 0} (padding : Option T) (w : ℕ) (ls : List (Line T M)) →
    visible_in_lines (filled padding w ls) ≡ visible_in_lines ls
filled-visible None w ls = refl
filled-visible {T} {M} (Some tag) w ls = by ls
  where
    line : (l : Line T M) → visible_in_line (filled_line tag w l) ≡ visible_in_line l
    line l = visible_in_line-append l (repeated tag 0x20 (w - columns l))
        ∙ ap (λ r. visible_in_line l ++ r) (spaces-visible M tag (w - columns l)) ∙ append-nil (visible_in_line l)

    by : (ls : List (Line T M)) → visible_in_lines (map (filled_line tag w) ls) ≡ visible_in_lines ls
    by [] = refl
    by (l ∷ ls) = ap (λ r. r ++ visible_in_lines (map (filled_line tag w) ls)) (line l) ∙ ap (λ r. visible_in_line l ++ r) (by ls)
