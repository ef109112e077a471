-- THE DEFINITION of a paragraph. What was fed, a list of characters and marks, is cut into pieces: words, gaps between them,
-- characters that are placed by themselves, and marks. Then the pieces are placed on a line buffer in order, which gives the
-- lines.
use Rattle.std.specs.Prelude.{ℕ, ◌+◌, ◌-◌, ◌%◌, Bool, true, false, ◌||◌, nat_le, List, [], ◌∷◌, ◌++◌, Option, Some, None, map, fold, replicate}
use Rattle.std.specs.Prelude.{if◌then◌else◌, option_and_then}
use Rattle.std.specs.Bool.{beq}
use Rattle.std.specs.Option.{option_or}
use Rattle.html_render_dom_values.specs.WhiteSpace.{preserves}
use Rattle.html_render_layout_lines.specs.declared.character.Kind.{Kind}
use Rattle.html_render_layout_lines.specs.declared.character.Kind.TheVariants.{Letter, Space, Divider, Dropped, Preserved, Newline, Tab, SoftSpace, SoftTab}
use Rattle.html_render_layout_lines.specs.declared.character.Character.{Character}
use Rattle.html_render_layout_lines.specs.declared.character.Item.{Item}
use Rattle.html_render_layout_lines.specs.declared.character.Item.TheVariants as item
use Rattle.html_render_layout_lines.specs.declared.line.Element.TheVariants as element
use Rattle.html_render_layout_lines.specs.Character.{kind, width_of, tag_on}
use Rattle.html_render_layout_lines.specs.Line.{Line, columns, word_columns, is_empty, marks_line}

-- ---- 1. Pieces

pub data Piece (T M : Type 0) : Type 0 where
  -- Consecutive letters and the marks among them, and whether white space is preserved in their text.
  Word : Bool → List (Item T M) → Piece T M
  -- Collapsible white space.
  Gap : Character T → Piece T M
  -- A place between words that shows nothing: U+200B.
  Cut : Piece T M
  -- A character that is placed by itself, as its kind says.
  Single : Kind → Character T → Piece T M
  -- A mark outside words.
  Loose : M → Piece T M

-- Pieces with a character of a kind in front of them. A letter joins the word that it precedes, unless white space is
-- preserved in the text of only one of the two.
abbrev pub with_kind : {T M : Type 0} → Kind → Character T → List (Piece T M) → List (Piece T M)
with_kind Letter c (Word k w ∷ ps) =
    if beq (preserves c.mode) k then Word (preserves c.mode) (item.Character c ∷ w) ∷ ps
    else Word (preserves c.mode) (item.Character c ∷ []) ∷ Word k w ∷ ps
with_kind Letter c ps = Word (preserves c.mode) (item.Character c ∷ []) ∷ ps
with_kind Space c ps = Gap c ∷ ps
with_kind Divider c ps = Cut ∷ ps
with_kind Dropped c ps = ps
with_kind k c ps = Single k c ∷ ps

-- Pieces with a mark in front of them. A mark that precedes a word is a part of it.
abbrev pub with_mark : {T M : Type 0} → M → List (Piece T M) → List (Piece T M)
with_mark m (Word k w ∷ ps) = Word k (item.Mark m ∷ w) ∷ ps
with_mark m ps = Loose m ∷ ps

-- Pieces of all that was fed.
abbrev pub pieces : {T M : Type 0} → List (Item T M) → List (Piece T M)
pieces [] = []
pieces (item.Character c ∷ xs) = with_kind (kind c.mode c.code) c (pieces xs)
pieces (item.Mark m ∷ xs) = with_mark m (pieces xs)

-- ---- 2. The line buffer

-- Columns of a line, and whether a character that is wider is placed nevertheless.
pub record Setting : Type 0 where
  pub width : ℕ
  pub overflow : Bool

-- Setting of lines of a width, with overflow off.
abbrev pub without_overflow : ℕ → Setting
without_overflow width = record { width = width; overflow = false }

-- Setting of lines of a width, with overflow on.
abbrev pub with_overflow : ℕ → Setting
with_overflow width = record { width = width; overflow = true }

-- Finished lines, the open line, whether that is a continuation line, and the marks that wait for a character.
pub record LineBuffer (T M : Type 0) : Type 0 where
  pub lines : List (Line T M)
  pub line : Line T M
  pub continues : Bool
  pub waiting : List M

-- Empty line buffer with waiting marks.
abbrev pub empty_buffer : {T M : Type 0} → List M → LineBuffer T M
empty_buffer marks = record { lines = []; line = []; continues = false; waiting = marks }

-- Line buffer with one more waiting mark.
abbrev pub with_waiting_mark : {T M : Type 0} → LineBuffer T M → M → LineBuffer T M
with_waiting_mark page m = record page { waiting = page.waiting ++ m ∷ [] }

-- Line buffer with a character at the end of the open line. The waiting marks directly precede it.
abbrev pub with_character : {T M : Type 0} → LineBuffer T M → Character T → LineBuffer T M
with_character page c =
    record page { line = page.line ++ (marks_line page.waiting ++ element.Character c.code (tag_on page.continues c) ∷ []); waiting = [] }

-- Line buffer whose open line is ended, unless it is empty. The next line is a continuation line.
abbrev pub continued : {T M : Type 0} → LineBuffer T M → LineBuffer T M
continued page = if is_empty page.line then page else record page { lines = page.lines ++ page.line ∷ []; line = []; continues = true }

-- Lines of a line buffer. The open line is one of them unless it is empty.
abbrev pub all_lines : {T M : Type 0} → LineBuffer T M → List (Line T M)
all_lines page = if is_empty page.line then page.lines else page.lines ++ page.line ∷ []

-- Whether `more` columns fit on the open line.
abbrev pub fits : {T M : Type 0} → Setting → LineBuffer T M → ℕ → Bool
fits setting page more = nat_le (columns page.line + more) setting.width

-- ---- 3. Characters on the line buffer

-- Line buffer with a character, on the open line if it fits there and otherwise on a continuation line. None, with overflow
-- off, if the character is wider than a line.
abbrev pub put_character : {T M : Type 0} → Setting → LineBuffer T M → Character T → Option (LineBuffer T M)
put_character setting page c =
    if fits setting page (width_of c.code) then Some (with_character page c)
    else if nat_le (width_of c.code) setting.width || setting.overflow then Some (with_character (continued page) c)
    else None

-- Line buffer with characters and marks placed one by one, so that each line has the longest leading part of them that fits.
abbrev pub put_items : {T M : Type 0} → Setting → LineBuffer T M → List (Item T M) → Option (LineBuffer T M)
put_items setting page [] = Some page
put_items setting page (item.Character c ∷ xs) = option_and_then (λ p. put_items setting p xs) (put_character setting page c)
put_items setting page (item.Mark m ∷ xs) = put_items setting (with_waiting_mark page m) xs

-- Line buffer with a character on the open line, if it fits there.
abbrev pub put_fitting : {T M : Type 0} → Setting → LineBuffer T M → Character T → LineBuffer T M
put_fitting setting page c = if fits setting page (width_of c.code) then with_character page c else page

-- ---- 4. The pending space

-- Line buffer with the pending space on the open line, unless that is empty. Marks that wait don't precede the space.
abbrev pub with_due_space : {T M : Type 0} → LineBuffer T M → Option (Character T) → LineBuffer T M
with_due_space page None = page
with_due_space page (Some c) =
    if is_empty page.line then page else record page { line = page.line ++ element.Character 32 (tag_on page.continues c) ∷ [] }

-- ---- 5. Words

-- Line buffer on which a word begins: after the pending space if both fit on the open line, and otherwise on a continuation
-- line.
abbrev pub page_for_word : {T M : Type 0} → Setting → LineBuffer T M → Option (Character T) → List (Item T M) → LineBuffer T M
page_for_word setting page pending word =
    if fits setting (with_due_space page pending) (word_columns word) then with_due_space page pending else continued page

-- ---- 6. Characters that are placed by themselves

-- Line buffer before a character that is placed by itself. The pending space is placed if it fits. Before a newline it is
-- dropped.
abbrev pub page_for_single : {T M : Type 0} → Setting → LineBuffer T M → Option (Character T) → Kind → LineBuffer T M
page_for_single setting page pending Newline = page
page_for_single setting page pending k = if fits setting (with_due_space page pending) 0 then with_due_space page pending else page

-- Spaces to the next multiple of 8 columns of the open line, from 1 to 8.
abbrev pub tab_spaces : {T M : Type 0} → LineBuffer T M → Character T → List (Character T)
tab_spaces page c = replicate (8 - columns page.line % 8) (record c { code = 32 })

-- Line buffer with a character placed by itself, as its kind says. A newline ends the open line, even if it is empty, and the next
-- line isn't a continuation line.
abbrev pub put_single : {T M : Type 0} → Setting → LineBuffer T M → Kind → Character T → Option (LineBuffer T M)
put_single setting page Preserved c = put_character setting page c
put_single setting page Newline c = Some (record page { lines = page.lines ++ page.line ∷ []; line = []; continues = false })
put_single setting page Tab c = put_items setting page (map (λ d. item.Character d) (tab_spaces page c))
put_single setting page SoftSpace c = Some (put_fitting setting page c)
put_single setting page SoftTab c = Some (fold (put_fitting setting) page (tab_spaces page c))
put_single setting page k c = Some page

-- ---- 7. The paragraph

-- Line buffer with all pieces after a pending space, if there is one. Gaps that neither a word nor a single character
-- separates are one pending space, with the tags of the first gap. A word that is wider than a line is cut where lines are full.
abbrev pub place : {T M : Type 0} → Setting → LineBuffer T M → Option (Character T) → List (Piece T M) → Option (LineBuffer T M)
place setting page pending [] = Some page
place setting page pending (Word k w ∷ ps) =
    option_and_then (λ p. place setting p None ps) (put_items setting (page_for_word setting page pending w) w)
place setting page pending (Gap c ∷ ps) = place setting page (option_or pending (Some c)) ps
place setting page pending (Cut ∷ ps) = place setting page pending ps
place setting page pending (Single k c ∷ ps) =
    option_and_then (λ p. place setting p None ps) (put_single setting (page_for_single setting page pending k) k c)
place setting page pending (Loose m ∷ ps) = place setting (with_waiting_mark page m) pending ps

-- Line buffer of all that was fed, after marks that wait. None if it is too narrow.
abbrev pub paragraph : {T M : Type 0} → Setting → List M → List (Item T M) → Option (LineBuffer T M)
paragraph setting marks items = place setting (empty_buffer marks) None (pieces items)
