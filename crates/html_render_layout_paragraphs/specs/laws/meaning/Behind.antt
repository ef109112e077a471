-- Parts whose lines are the laid ones.
use Rattle.std.proofs.Common.{◌≡◌, Bool, List, [], ◌∷◌, ◌++◌, Option, Some, ◌⊎◌, inl, inr, refl, ◌∙◌, subst, append_assoc, option_and_then}
use Rattle.html_render_layout_lines.specs.Line.{Line}
use Rattle.html_render_layout_paragraphs.specs.Paragraph.{LineBuffer, Setting, all_lines}
use Rattle.html_render_layout_paragraphs.specs.Meaning.{Part, IsNotEmpty, StandOn, AreBrokenInto}
use Rattle.html_render_layout_paragraphs.specs.laws.meaning.Words.{page_of}
use Rattle.html_render_layout_paragraphs.specs.laws.meaning.Laying.{lay}

-- whether the line buffer `q` has the lines of the parts, after other lines
pub record Meant {T M : Type 0} (s : Setting) (lines : List (Line T M)) (b : Bool) (before : List M) (ps : List (Part T M)) (q : LineBuffer T M) : Type 0
  where
    pub own : List (Line T M)
    pub are_broken : AreBrokenInto s b before ps own q.waiting
    pub are_all : all_lines q ≡ lines ++ own

-- a part on the line can be joined with the parts before it
pub behind_part : {T M : Type 0} (s : Setting) (lines : List (Line T M)) (b : Bool) (before : List M) (front : List (Part T M)) (p : Part T M)
    (rest : List (Part T M)) (q : LineBuffer T M) → Meant s lines b before ((front ++ p ∷ []) ++ rest) q → Meant s lines b before (front ++ p ∷ rest) q
behind_part s lines b before front p rest q m =
    subst (λ ps. Meant s lines b before ps q) (append_assoc front (p ∷ []) rest) m

-- a line that ends can be added to the lines of the following parts
pub behind_line : {T M : Type 0} (s : Setting) (lines : List (Line T M)) (line : Line T M) (b c : Bool) (before ms : List M)
    (ps qs : List (Part T M)) (q : LineBuffer T M) →
    ((ls : List (Line T M)) → AreBrokenInto s c ms qs ls q.waiting → AreBrokenInto s b before ps (line ∷ ls) q.waiting) →
    Meant s (lines ++ line ∷ []) c ms qs q → Meant s lines b before ps q
behind_line s lines line b c before ms ps qs q f m = record {
  own = line ∷ m.own;
  are_broken = f m.own m.are_broken;
  are_all = m.are_all ∙ append_assoc lines (line ∷ []) m.own;
}

-- whether these parts have the laid lines, whichever parts precede them on their line
abbrev pub Completes : {T M : Type 0} → Setting → List (Part T M) → LineBuffer T M → Type 0
Completes {T} {M} s rest q =
    (lines : List (Line T M)) (b : Bool) (before : List M) (front : List (Part T M)) (line : Line T M) (ms : List M) →
    StandOn s b before front line ms → lay s (page_of lines line b ms) rest ≡ Some q → Meant s lines b before (front ++ rest) q

abbrev pub then_rest : {T M : Type 0} → Setting → List (Part T M) → Option (LineBuffer T M) → Option (LineBuffer T M)
then_rest {T} {M} s rest o = option_and_then (λ (p : LineBuffer T M). lay s p rest) o

pub empty-or-not : {A : Type 0} (xs : List A) → (xs ≡ []) ⊎ IsNotEmpty xs
empty-or-not [] = inl refl
empty-or-not (x ∷ xs) = inr tt
