-- The columns of lines that are put together.
use Rattle.std.proofs.Common.{◌≡◌, ℕ, ◌+◌, List, [], ◌∷◌, ◌++◌, refl, arith}
use Rattle.std.proofs.lemmas.List.Sums.{sum_by-append, sum_by-cons}
use Rattle.unicode_width.specs.Width.{char_width}
use Rattle.html_render_layout_lines.specs.declared.character.Item.{Item}
use Rattle.html_render_layout_lines.specs.declared.line.Element.{Element}
use Rattle.html_render_layout_lines.specs.declared.line.Element.TheVariants as element
use Rattle.html_render_layout_lines.specs.Character.{width_of}
use Rattle.html_render_layout_lines.specs.Line.{Line, columns, element_width, marks_line, word_columns, item_width}
use Rattle.html_render_layout_lines.specs.TaggedText.{under, text_columns}

pub columns-append : {T M : Type 0} (a b : Line T M) → columns (a ++ b) ≡ columns a + columns b
columns-append {T} {M} a b = sum_by-append (λ (e : Element T M). element_width e) a b

pub columns-marks : (T : Type 0) {M : Type 0} (ms : List M) → columns (marks_line {T = T} ms) ≡ 0
columns-marks T [] = refl
columns-marks T (m ∷ ms) = columns-marks T ms

pub columns-single : {T M : Type 0} (e : Element T M) → columns (e ∷ []) ≡ element_width e
columns-single e = omega arith

pub columns-cons : {T M : Type 0} (e : Element T M) (b : Line T M) → columns (e ∷ b) ≡ element_width e + columns b
columns-cons e b = omega (arith, columns-append (e ∷ []) b, columns-single e)

-- a line with a character behind marks
pub columns-push : {T M : Type 0} (line : Line T M) (ms : List M) (c : ℕ) (tag : T) →
    columns (line ++ (marks_line ms ++ element.Character c tag ∷ [])) ≡ columns line + width_of c
columns-push {T} {M} line ms c tag =
    let last : Line T M = element.Character c tag ∷ [] in
    omega (arith, columns-append line (marks_line ms ++ last), columns-append (marks_line ms) last, columns-marks T ms)

pub columns-under : {T : Type 0} (M : Type 0) (tag : T) (cs : List ℕ) → columns (under {M = M} tag cs) ≡ text_columns cs
columns-under M tag [] = refl
columns-under M tag (c ∷ cs) =
    let front = columns-cons {M = M} (element.Character c tag) (under tag cs) in
    omega (arith, front, sum_by-cons width_of c cs, columns-under M tag cs)

-- the columns of words that are put together
pub word_columns-append : {T M : Type 0} (v w : List (Item T M)) → word_columns (v ++ w) ≡ word_columns v + word_columns w
word_columns-append {T} {M} v w = sum_by-append (λ (x : Item T M). item_width x) v w

pub word_columns-cons : {T M : Type 0} (x : Item T M) (word : List (Item T M)) → word_columns (x ∷ word) ≡ item_width x + word_columns word
word_columns-cons {T} {M} x word = sum_by-cons (λ (y : Item T M). item_width y) x word

pub width-space : width_of 32 ≡ 1
unfolding width_of char_width
width-space = refl
