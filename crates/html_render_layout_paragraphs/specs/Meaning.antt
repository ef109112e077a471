-- THE MEANING of a paragraph's lines, which doesn't place anything. The parts of the text are on the lines in order, except
-- for white space that is dropped. A line ends at a break, before a word that doesn't fit on it, before the next character
-- of a word that is cut, or at the end of the text, and nowhere else. No line passes the width, except for one of a single
-- character with overflow on. A word is cut only if it begins a line and is wider than the line; then into longest fronts.
use Rattle.std.specs.Prelude.{◌≡◌, ℕ, ◌+◌, ◌-◌, ◌%◌, ◌≤◌, ◌<◌, ◌⊎◌, Bool, true, false, List, [], ◌∷◌, ◌++◌, Option, Some, None, map, replicate}
use Rattle.std.specs.Option.{option_or}
use Rattle.html_render_layout_lines.specs.declared.character.Kind.{Kind}
use Rattle.html_render_layout_lines.specs.declared.character.Kind.TheVariants.{Preserved, Newline, Tab, SoftSpace, SoftTab}
use Rattle.html_render_layout_lines.specs.declared.character.Character.{Character}
use Rattle.html_render_layout_lines.specs.declared.character.Item.{Item}
use Rattle.html_render_layout_lines.specs.declared.character.Item.TheVariants as item
use Rattle.html_render_layout_lines.specs.declared.line.Element.TheVariants as element
use Rattle.html_render_layout_lines.specs.Line.{Line, columns}
use Rattle.html_render_layout_paragraphs.specs.Paragraph.{Piece, Word, Gap, Cut, Single, Loose, pieces, Setting}
use Rattle.html_render_layout_lines.specs.Character.{tag_on}
use Rattle.html_render_layout_paragraphs.specs.Word.{line_with_word, marks_behind_word}

-- ---- 1. The text, whatever the width

-- a part of the text: a word, white space or a mark, by its effect on lines
pub data Part (T M : Type 0) : Type 0 where
  -- a word, with the space between it and the part before it on its line, if white space precedes it
  Whole : Option (Character T) → List (Item T M) → Part T M
  -- a space before a character with preserved white space
  Between : Character T → Part T M
  -- preserved white space that is dropped if it doesn't fit
  Soft : Character T → Part T M
  -- the end of a line
  Break : Part T M
  -- a tab: preserved spaces up to the next multiple of 8 columns
  Stop : Character T → Part T M
  -- a tab whose spaces are dropped if they don't fit
  SoftStop : Character T → Part T M
  -- a mark, which waits for the next character
  Marked : M → Part T M

-- a preserved character as a word of its own
abbrev pub letter : {T M : Type 0} → Character T → Part T M
letter c = Whole None (item.Character c ∷ [])

-- parts that begin with a character that is placed by itself, as its kind states
abbrev pub with_single : {T M : Type 0} → Kind → Character T → List (Part T M) → List (Part T M)
with_single Preserved c ps = letter c ∷ ps
with_single Newline c ps = Break ∷ ps
with_single Tab c ps = Stop c ∷ ps
with_single SoftSpace c ps = Soft c ∷ ps
with_single SoftTab c ps = SoftStop c ∷ ps
with_single k c ps = ps

-- parts that begin with a character of this kind, after white space; the white space is dropped before a newline
abbrev pub with_between : {T M : Type 0} → Option (Character T) → Kind → List (Part T M) → List (Part T M)
with_between None k ps = ps
with_between (Some c) Newline ps = ps
with_between (Some c) k ps = Between c ∷ ps

-- the parts of a text after white space, if there is some; all white space between two parts is one space with the tag of
-- its first character, and white space at the end is dropped
abbrev pub parts : {T M : Type 0} → Option (Character T) → List (Piece T M) → List (Part T M)
parts space [] = []
parts space (Word k word ∷ ps) = Whole space word ∷ parts None ps
parts space (Gap c ∷ ps) = parts (option_or space (Some c)) ps
parts space (Cut ∷ ps) = parts space ps
parts space (Single k c ∷ ps) = with_between space k (with_single k c (parts None ps))
parts space (Loose m ∷ ps) = Marked m ∷ parts space ps

-- ---- 2. The contents of one line

-- a line followed by a space; a line doesn't begin with one
abbrev pub spaced : {T M : Type 0} → Bool → Line T M → Option (Character T) → Line T M
spaced continues line None = line
spaced continues [] (Some c) = []
spaced continues (e ∷ es) (Some c) = (e ∷ es) ++ element.Character 32 (tag_on continues c) ∷ []

-- a line followed by a space, if there is one, and a word; waiting marks precede the next character
abbrev pub with_whole : {T M : Type 0} → Bool → Line T M → List M → Option (Character T) → List (Item T M) → Line T M
with_whole continues line marks space word = line_with_word continues (spaced continues line space) marks word

-- a line followed by a character
abbrev pub with_letter : {T M : Type 0} → Bool → Line T M → List M → Character T → Line T M
with_letter continues line marks c = with_whole continues line marks None (item.Character c ∷ [])

abbrev pub IsNotEmpty : {A : Type 0} → List A → Type 0
IsNotEmpty [] = ⊥
IsNotEmpty (x ∷ xs) = Unit {0}

abbrev pub character_count : {T M : Type 0} → List (Item T M) → ℕ
character_count [] = 0
character_count (item.Character c ∷ word) = 1 + character_count word
character_count (item.Mark m ∷ word) = character_count word

-- spaces up to the next multiple of 8 columns
abbrev pub spaces_behind : {T M : Type 0} → Line T M → Character T → List (Character T)
spaces_behind line c = replicate (8 - columns line % 8) (record c { code = 32 })

module _ {T M : Type 0} (s : Setting) where
  -- `continues`: whether the line begins because something didn't fit; `before`: the marks that wait at its start
  module _ (continues : Bool) (before : List M) where
    -- whether parts are on one line, with this line and these waiting marks as the result
    pub data StandOn : List (Part T M) → Line T M → List M → Type 0 where
      -- no part, on an empty line
      nothing : StandOn [] [] before
      -- a word after its space, if both fit
      whole : {ps line marks : _} (space : Option (Character T)) (word : List (Item T M)) → StandOn ps line marks →
          columns (with_whole continues line marks space word) ≤ s.width →
          StandOn (ps ++ Whole space word ∷ []) (with_whole continues line marks space word) (marks_behind_word marks word)
      -- with overflow on, a single character that begins a line, however wide
      alone : {ps marks : _} (space : Option (Character T)) (word : List (Item T M)) → StandOn ps [] marks →
          character_count word ≡ 1 → s.overflow ≡ true →
          StandOn (ps ++ Whole space word ∷ []) (with_whole continues [] marks space word) (marks_behind_word marks word)
      -- a space before a character with preserved white space, if the space fits
      between : {ps line marks : _} (c : Character T) → StandOn ps line marks →
          columns (spaced continues line (Some c)) ≤ s.width →
          StandOn (ps ++ Between c ∷ []) (spaced continues line (Some c)) marks
      -- such a space is dropped if it doesn't fit
      no_between : {ps line marks : _} (c : Character T) → StandOn ps line marks →
          s.width < columns (spaced continues line (Some c)) →
          StandOn (ps ++ Between c ∷ []) line marks
      -- white space that may be dropped, if it fits
      soft : {ps line marks : _} (c : Character T) → StandOn ps line marks →
          columns (with_letter continues line marks c) ≤ s.width →
          StandOn (ps ++ Soft c ∷ []) (with_letter continues line marks c) []
      -- such white space is dropped if it doesn't fit
      no_soft : {ps line marks : _} (c : Character T) → StandOn ps line marks →
          s.width < columns (with_letter continues line marks c) →
          StandOn (ps ++ Soft c ∷ []) line marks
      -- a mark, which waits for the next character
      marked : {ps line marks : _} (m : M) → StandOn ps line marks → StandOn (ps ++ Marked m ∷ []) line (marks ++ m ∷ [])

  -- ---- 3. The ends of lines

  -- Whether these are the lines of the parts, and these marks are left over. The first two arguments are whether the first
  -- line continues another, and the marks that wait at its start.
  pub data AreBrokenInto : Bool → List M → List (Part T M) → List (Line T M) → List M → Type 0 where
    -- the parts leave an empty line, which isn't one of the lines
    none : {continues before ps marks : _} → StandOn continues before ps [] marks → AreBrokenInto continues before ps [] marks
    -- all remaining parts are on the last line
    last : {continues before ps line marks : _} → StandOn continues before ps line marks → IsNotEmpty line →
        AreBrokenInto continues before ps (line ∷ []) marks
    -- a break ends a line, empty or not
    broken : {continues before ps line marks rest lines left : _} → StandOn continues before ps line marks →
        AreBrokenInto false marks rest lines left →
        AreBrokenInto continues before (ps ++ Break ∷ rest) (line ∷ lines) left
    -- a line that isn't empty ends before a word that doesn't fit on it
    full : {continues before ps line marks rest lines left : _} (space : Option (Character T)) (word : List (Item T M)) →
        StandOn continues before ps line marks → IsNotEmpty line → s.width < columns (with_whole continues line marks space word) →
        AreBrokenInto true marks (Whole space word ∷ rest) lines left →
        AreBrokenInto continues before (ps ++ Whole space word ∷ rest) (line ∷ lines) left
    -- a word that begins a line and is too wide for it is cut before its first character that doesn't fit
    cut : {continues before ps waiting line marks rest lines left : _} (space : Option (Character T)) (front : List (Item T M))
        (c : Character T) (back : List (Item T M)) → StandOn continues before ps [] waiting →
        StandOn continues before (ps ++ Whole space front ∷ []) line marks → IsNotEmpty line →
        s.width < columns (with_letter continues line marks c) →
        AreBrokenInto true marks (Whole None (item.Character c ∷ back) ∷ rest) lines left →
        AreBrokenInto continues before (ps ++ Whole space (front ++ item.Character c ∷ back) ∷ rest) (line ∷ lines) left
    -- a tab becomes the spaces that it needs at its place
    stop : {continues before ps line marks lines left : _} (c : Character T) (rest : List (Part T M)) →
        StandOn continues before ps line marks →
        AreBrokenInto continues before (ps ++ (map letter (spaces_behind line c) ++ rest)) lines left →
        AreBrokenInto continues before (ps ++ Stop c ∷ rest) lines left
    soft_stop : {continues before ps line marks lines left : _} (c : Character T) (rest : List (Part T M)) →
        StandOn continues before ps line marks →
        AreBrokenInto continues before (ps ++ (map Soft (spaces_behind line c) ++ rest)) lines left →
        AreBrokenInto continues before (ps ++ SoftStop c ∷ rest) lines left

-- ---- 4. The paragraph

-- whether these are the lines of all items that were fed, after these waiting marks, and `left` are the marks left over
abbrev pub IsParagraph : {T M : Type 0} → Setting → List M → List (Item T M) → List (Line T M) → List M → Type 0
IsParagraph s marks items lines left = AreBrokenInto s false marks (parts None (pieces items)) lines left

-- ---- 5. The width of the lines

abbrev pub characters_on : {T M : Type 0} → Line T M → ℕ
characters_on [] = 0
characters_on (element.Character c tag ∷ es) = 1 + characters_on es
characters_on (element.Mark m ∷ es) = characters_on es

-- whether a line is within the width, or has a single character with overflow on
abbrev pub IsWithinOrSingle : {T M : Type 0} → Setting → Line T M → Type 0
IsWithinOrSingle s line = (columns line ≤ s.width) ⊎ ((s.overflow ≡ true) × (characters_on line ≡ 1))
