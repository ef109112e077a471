-- A grouped line has the columns and the characters of the line, and its strings are the longest.
use Rattle.std.proofs.Common.{◌≡◌, ℕ, ◌+◌, ◌≤◌, Bool, true, List, [], ◌∷◌, ◌++◌, map, Vec, refl, sym, ap, ◌∙◌, subst, append_assoc, get_or, arith}
use Rattle.std.proofs.lemmas.Bool.{cond_both}
use Rattle.std.proofs.lemmas.List.Elements.{All-nil, All-cons, All-head, All-tail}
use Rattle.std.proofs.lemmas.List.Sums.{sum_by-append, sum_by-cons}
use Rattle.std.specs.Cmp.{IsEquivalence}
use Rattle.std.specs.declared.alloc.Global.{Global}
use Rattle.html_render_layout_lines.specs.declared.line.Element.{Element}
use Rattle.html_render_layout_lines.specs.declared.line.Element.TheVariants as element
use Rattle.html_render_layout_lines.specs.Character.{width_of}
use Rattle.html_render_layout_lines.specs.Line.{Line, columns, element_width, AllWithinWidth}
use Rattle.html_render_layout_lines.specs.TaggedText.{text_columns}
use Rattle.html_render_layout_tagged.specs.declared.line.TaggedLineElement.{TaggedLineElement}
use Rattle.html_render_layout_tagged.specs.declared.line.TaggedLineElement.TheVariants as made
use Rattle.html_render_layout_tagged.specs.TaggedLine.{line_columns, element_columns, AllTaggedWithinWidth}
use Rattle.html_render_layout_tagged.specs.Grouping.{LinePart, Str, FragmentStart, in_front, grouped, piece_of, pieces_of, lines_of}
use Rattle.html_render_layout_tagged.specs.Grouping.{piece_columns, pieces_columns, ComesOther, AreLongest, strings_characters, line_characters}

-- ---- columns

pieces-cons : {T : Type 0} (p : LinePart T) (ps : List (LinePart T)) → pieces_columns (p ∷ ps) ≡ piece_columns p + pieces_columns ps
pieces-cons {T} p ps = sum_by-cons (λ (x : LinePart T). piece_columns x) p ps

module _ {T : Type 0} (equal : T → T → Bool) where
  columns-in_front : (text : List ℕ) (tag : T) (ps : List (LinePart T)) →
      pieces_columns (in_front equal text tag ps) ≡ text_columns text + pieces_columns ps
  columns-in_front text tag [] = pieces-cons (Str text tag) []
  columns-in_front text tag (FragmentStart name ∷ ps) = pieces-cons (Str text tag) (FragmentStart name ∷ ps)
  columns-in_front text tag (Str next other ∷ ps) =
      cond_both (equal tag other) _ _ (λ (x : List (LinePart T)). pieces_columns x ≡ text_columns text + pieces_columns (Str next other ∷ ps))
      (λ e. omega (arith, pieces-cons (Str (text ++ next) tag) ps, sum_by-append width_of text next, pieces-cons (Str next other) ps))
      (λ e. pieces-cons (Str text tag) (Str next other ∷ ps))

  pub columns-grouped : (names : List (List ℕ)) (line : Line T ℕ) → pieces_columns (grouped equal names line) ≡ columns line
  columns-grouped names [] = refl
  columns-grouped names (element.Mark m ∷ es) =
      let line = sum_by-cons (λ (x : Element T ℕ). element_width x) (element.Mark m) es in
      omega (arith, pieces-cons (FragmentStart (get_or names m [])) (grouped equal names es), columns-grouped names es)
  columns-grouped names (element.Character c tag ∷ es) =
      let line = sum_by-cons (λ (x : Element T ℕ). element_width x) (element.Character c tag) es in
      omega (arith, columns-in_front (c ∷ []) tag (grouped equal names es), sum_by-cons width_of c [], columns-grouped names es)

  -- ---- the longest strings

  -- pieces that don't begin with a string under a tag don't begin with one under an equal tag
  other-equal : IsEquivalence equal → (tag other : T) (ps : List (LinePart T)) → equal tag other ≡ true → ComesOther equal other ps → ComesOther equal tag ps
  other-equal laws tag other [] e h = tt
  other-equal laws tag other (FragmentStart name ∷ ps) e h = tt
  other-equal laws tag other (Str text third ∷ ps) e h = laws.congr tag other third e ∙ h

  longest-in_front : IsEquivalence equal → (c : ℕ) (text : List ℕ) (tag : T) (ps : List (LinePart T)) → AreLongest equal ps →
      AreLongest equal (in_front equal (c ∷ text) tag ps)
  longest-in_front laws c text tag [] h = (omega arith, tt, tt)
  longest-in_front laws c text tag (FragmentStart name ∷ ps) h = (omega arith, tt, h)
  longest-in_front laws c text tag (Str next other ∷ ps) h =
      cond_both (equal tag other) _ _ (λ (x : List (LinePart T)). AreLongest equal x)
      (λ e. (omega arith, other-equal laws tag other ps e h.1, h.2))
      (λ e. (omega arith, e, h))

  pub longest-grouped : IsEquivalence equal → (names : List (List ℕ)) (line : Line T ℕ) → AreLongest equal (grouped equal names line)
  longest-grouped laws names [] = tt
  longest-grouped laws names (element.Mark m ∷ es) = longest-grouped laws names es
  longest-grouped laws names (element.Character c tag ∷ es) = longest-in_front laws c [] tag (grouped equal names es) (longest-grouped laws names es)

-- ---- characters

module _ {T : Type 0} (equal : T → T → Bool) where
  characters-in_front : (text : List ℕ) (tag : T) (ps : List (LinePart T)) →
      strings_characters (in_front equal text tag ps) ≡ text ++ strings_characters ps
  characters-in_front text tag [] = refl
  characters-in_front text tag (FragmentStart name ∷ ps) = refl
  characters-in_front text tag (Str next other ∷ ps) =
      cond_both (equal tag other) _ _ (λ (x : List (LinePart T)). strings_characters x ≡ text ++ strings_characters (Str next other ∷ ps))
      (λ e. append_assoc text next (strings_characters ps))
      (λ e. refl)

  -- the strings of a grouped line hold its characters, in order
  pub characters-grouped : (names : List (List ℕ)) (line : Line T ℕ) → strings_characters (grouped equal names line) ≡ line_characters line
  characters-grouped names [] = refl
  characters-grouped names (element.Mark m ∷ es) = characters-grouped names es
  characters-grouped names (element.Character c tag ∷ es) =
      characters-in_front (c ∷ []) tag (grouped equal names es) ∙ ap (λ cs. c ∷ cs) (characters-grouped names es)

-- ---- the columns of tagged lines

columns-pieces : {A : Type 0} (line : List (TaggedLineElement (Vec A Global))) → line_columns line ≡ pieces_columns (pieces_of line)
columns-pieces [] = refl
columns-pieces {A} (made.Str s ∷ es) =
    let line = sum_by-cons (λ (x : TaggedLineElement (Vec A Global)). element_columns x) (made.Str s) es in
    omega (arith, columns-pieces es, pieces-cons (piece_of (made.Str s)) (pieces_of es))
columns-pieces {A} (made.FragmentStart name ∷ es) =
    let line = sum_by-cons (λ (x : TaggedLineElement (Vec A Global)). element_columns x) (made.FragmentStart name) es in
    omega (arith, columns-pieces es, pieces-cons (piece_of (made.FragmentStart name)) (pieces_of es))

all-pieces : {A : Type 0} (lines : List (List (TaggedLineElement (Vec A Global)))) → map line_columns lines ≡ map pieces_columns (lines_of lines)
all-pieces [] = refl
all-pieces (l ∷ ls) = rw (columns-pieces l, all-pieces ls) refl

all-grouped : {T : Type 0} (equal : T → T → Bool) (names : List (List ℕ)) (lines : List (Line T ℕ)) →
    map pieces_columns (map (grouped equal names) lines) ≡ map columns lines
all-grouped equal names [] = refl
all-grouped equal names (l ∷ ls) = rw (columns-grouped equal names l, all-grouped equal names ls) refl

-- tagged lines have the columns of the lines that they are grouped from
pub columns-lines : {A : Type 0} (equal : List A → List A → Bool) (names : List (List ℕ))
    (made : List (List (TaggedLineElement (Vec A Global)))) (lines : List (Line (List A) ℕ)) →
    lines_of made ≡ map (grouped equal names) lines → map line_columns made ≡ map columns lines
columns-lines equal names made lines e = all-pieces made ∙ ap (map pieces_columns) e ∙ all-grouped equal names lines

-- tagged lines with the columns of lines that are within a width are within it too
pub within-lines : {T U : Type 0} (width : ℕ) (made : List (List (TaggedLineElement T))) (lines : List (Line U ℕ)) →
    map line_columns made ≡ map columns lines → AllWithinWidth width lines → AllTaggedWithinWidth width made
within-lines {T} width [] lines e h = All-nil (λ (l : List (TaggedLineElement T)). line_columns l ≤ width)
within-lines width (m ∷ ms) [] e h = cc
within-lines {T} {U} width (m ∷ ms) (l ∷ ls) e h =
    let first : line_columns m ≡ columns l = cc in
    let rest : map line_columns ms ≡ map columns ls = cc in
    All-cons (λ (l : List (TaggedLineElement T)). line_columns l ≤ width) m ms
    (subst (λ n. n ≤ width) (sym first) (All-head (λ (l : Line U ℕ). columns l ≤ width) l ls h))
    (within-lines width ms ls rest (All-tail (λ (l : Line U ℕ). columns l ≤ width) l ls h))
