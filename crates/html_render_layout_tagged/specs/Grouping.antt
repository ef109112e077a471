-- The grouping of a line: its tagged strings are the longest runs of characters with equal tags and without a mark between.
use Rattle.std.specs.Prelude.{◌≡◌, ◌<◌, ℕ, Bool, false, List, [], ◌∷◌, ◌++◌, length, map, sum_by, if◌then◌else◌, string_bytes, Vec}
use Rattle.std.proofs.Common.{get_or}
use Rattle.std.specs.Str.{chars}
use Rattle.std.specs.declared.alloc.Global.{Global}
use Rattle.html_render_layout_lines.specs.declared.line.Element.TheVariants as element
use Rattle.html_render_layout_lines.specs.Line.{Line}
use Rattle.html_render_layout_lines.specs.TaggedText.{text_columns}
use Rattle.html_render_layout_tagged.specs.declared.line.TaggedLineElement.{TaggedLineElement}
use Rattle.html_render_layout_tagged.specs.declared.line.TaggedLineElement.TheVariants as made

-- a part of a line: characters, as code points, under a tag; or the name, in UTF-8, of the fragment that begins
pub data LinePart (T : Type 0) : Type 0 where
  Str : (text : List ℕ) → (tag : T) → LinePart T
  FragmentStart : (name : List ℕ) → LinePart T

module _ {T : Type 0} (equal : T → T → Bool) where
  -- a text put before pieces: it joins a first string with an equal tag, which then has the text's tag
  abbrev pub in_front : (text : List ℕ) → (tag : T) → List (LinePart T) → List (LinePart T)
  in_front text tag (Str next other ∷ ps) = if equal tag other then Str (text ++ next) tag ∷ ps else Str text tag ∷ Str next other ∷ ps
  in_front text tag ps = Str text tag ∷ ps

  -- the pieces of a line, where a mark is the index of its name; the name is empty if there is none
  abbrev pub grouped : (names : List (List ℕ)) → Line T ℕ → List (LinePart T)
  grouped names [] = []
  grouped names (element.Character c tag ∷ es) = in_front (c ∷ []) tag (grouped names es)
  grouped names (element.Mark m ∷ es) = FragmentStart (get_or names m []) ∷ grouped names es

-- piece of an element of a tagged line
abbrev pub piece_of : {A : Type 0} → TaggedLineElement (Vec A Global) → LinePart (List A)
piece_of (made.Str s) = Str (chars (string_bytes s.s)) s.tag.items
piece_of (made.FragmentStart name) = FragmentStart (string_bytes name)

abbrev pub pieces_of : {A : Type 0} → List (TaggedLineElement (Vec A Global)) → List (LinePart (List A))
pieces_of {A} line = map (λ (e : TaggedLineElement (Vec A Global)). piece_of e) line

abbrev pub lines_of : {A : Type 0} → List (List (TaggedLineElement (Vec A Global))) → List (List (LinePart (List A)))
lines_of {A} lines = map (λ (l : List (TaggedLineElement (Vec A Global))). pieces_of l) lines

-- whether a clone of an annotation is the same value as its original
abbrev pub ClonesAreSame : {A : Type 0} → (A → A → Type 0) → Type 0
ClonesAreSame {A} is_clone = (a b : A) → is_clone a b → b ≡ a

-- columns of a piece, and of all pieces of a line
abbrev pub piece_columns : {T : Type 0} → LinePart T → ℕ
piece_columns (Str text tag) = text_columns text
piece_columns (FragmentStart name) = 0

abbrev pub pieces_columns : {T : Type 0} → List (LinePart T) → ℕ
pieces_columns {T} ps = sum_by (λ (p : LinePart T). piece_columns p) ps

module _ {T : Type 0} (equal : T → T → Bool) where
  -- whether the first piece is no string with an equal tag
  abbrev pub ComesOther : T → List (LinePart T) → Type 0
  ComesOther tag [] = Unit {0}
  ComesOther tag (Str text other ∷ ps) = equal tag other ≡ false
  ComesOther tag (FragmentStart name ∷ ps) = Unit {0}

  -- whether no string is empty, and none is directly followed by one with an equal tag
  abbrev pub AreLongest : List (LinePart T) → Type 0
  AreLongest [] = Unit {0}
  AreLongest (Str text tag ∷ ps) = (0 < length text) × ComesOther tag ps × AreLongest ps
  AreLongest (FragmentStart name ∷ ps) = AreLongest ps

-- characters of a grouped line's strings, in order
abbrev pub strings_characters : {T : Type 0} → List (LinePart T) → List ℕ
strings_characters [] = []
strings_characters (Str text tag ∷ ps) = text ++ strings_characters ps
strings_characters (FragmentStart name ∷ ps) = strings_characters ps

-- characters of a line before it is grouped, in order
abbrev pub line_characters : {T : Type 0} → Line T ℕ → List ℕ
line_characters [] = []
line_characters (element.Character c tag ∷ es) = c ∷ line_characters es
line_characters (element.Mark m ∷ es) = line_characters es
