-- How lines are stored: one text, one list of slots, and the ends of lines in both.
use Rattle.std.specs.Prelude.{◌≡◌, ℕ, zero, suc, ◌+◌, ◌-◌, ◌<◌, ◌≤◌, Option, None, replicate, encode_utf8, List, [], ◌∷◌, ◌++◌, take, drop, length, slice_index_or}
use Rattle.std.specs.List.{flat_map}
use Rattle.std.specs.Str.{chars, IsUtf8, IsCharBoundary}
use Rattle.html_render_layout_lines.specs.declared.line.Element.{Element}
use Rattle.html_render_layout_lines.specs.declared.line.Element.TheVariants as element
use Rattle.html_render_layout_lines.specs.Line.{Line, columns, text_bytes}
use Rattle.html_render_layout_lines.specs.TaggedText.{counted}
use Rattle.html_render_layout_buffer.specs.declared.slot.Slot.{Slot}
use Rattle.html_render_layout_buffer.specs.declared.slot.Slot.TheVariants as slot
use Rattle.html_render_layout_buffer.specs.declared.ends.LineEnd.{LineEnd}
use Rattle.html_render_layout_buffer.specs.declared.ends.LinePlace.{LinePlace}
use Rattle.html_render_layout_buffer.specs.Lines.{BufferedLines, lines_bytes}

-- a slot for each byte of a character, and one for a mark
abbrev pub slots_of : {T M : Type 0} → Element T M → List (Slot T M)
slots_of (element.Character c tag) = replicate (length (encode_utf8 c)) (slot.Byte tag)
slots_of (element.Mark m) = slot.Mark m ∷ []

abbrev pub line_slots : {T M : Type 0} → Line T M → List (Slot T M)
line_slots {T} {M} l = flat_map (λ (e : Element T M). slots_of e) l

-- newlines have no slot
abbrev pub lines_slots : {T M : Type 0} → List (Line T M) → List (Slot T M)
lines_slots {T} {M} ls = flat_map (λ (l : Line T M). line_slots l) ls

-- the ends of lines, of which the first begins at the place `at` of the text and at the slot `from`
abbrev pub line_ends : {T M : Type 0} → (at from : ℕ) → List (Line T M) → List LineEnd
line_ends at from [] = []
line_ends at from (l ∷ ls) =
    record { text = at + length (text_bytes l) + 1; slots = from + length (line_slots l); columns = counted (columns l) }
    ∷ line_ends (at + length (text_bytes l) + 1) (from + length (line_slots l)) ls

-- each line is a text in UTF-8
abbrev pub AllUtf8 : {T M : Type 0} → List (Line T M) → Type 0
AllUtf8 [] = Unit {0}
AllUtf8 (l ∷ ls) = IsUtf8 (text_bytes l) × AllUtf8 ls

-- what the fields of a line buffer hold
pub record Fields (T M : Type 0) : Type 0 where
  pub text : List ℕ
  pub slots : List (Slot T M)
  pub ends : List LineEnd
  -- where the open line begins
  pub start : ℕ
  pub slot_start : ℕ
  -- the columns of the open line
  pub columns : Option ℕ

-- the fields hold these ended lines and this open line
pub record IsStored {T M : Type 0} (f : Fields T M) (ls : List (Line T M)) (l : Line T M) : Type 0 where
  pub text : f.text ≡ lines_bytes ls ++ text_bytes l
  pub slots : f.slots ≡ lines_slots ls ++ line_slots l
  pub ends : f.ends ≡ line_ends 0 0 ls
  pub start : f.start ≡ length (lines_bytes ls)
  pub slot_start : f.slot_start ≡ length (lines_slots ls)
  pub columns : f.columns ≡ counted (columns l)
  pub ended_utf8 : AllUtf8 ls
  pub open_utf8 : IsUtf8 (text_bytes l)

-- ---- the lines, read from the fields

-- the elements of characters and slots, after `skipped` more bytes of the character before
abbrev pub elements_read : {T M : Type 0} → (skipped : ℕ) → List ℕ → List (Slot T M) → Line T M
elements_read k cs [] = []
elements_read k cs (slot.Mark m ∷ ss) = element.Mark m ∷ elements_read k cs ss
elements_read (suc k) cs (slot.Byte tag ∷ ss) = elements_read k cs ss
elements_read zero [] (slot.Byte tag ∷ ss) = []
elements_read zero (c ∷ cs) (slot.Byte tag ∷ ss) = element.Character c tag ∷ elements_read (length (encode_utf8 c) - 1) cs ss

abbrev pub lines_read : {T M : Type 0} → (at from : ℕ) → List LineEnd → List ℕ → List (Slot T M) → List (Line T M)
lines_read at from [] bs ss = []
lines_read at from (e ∷ es) bs ss =
    elements_read 0 (chars (drop at (take (e.text - 1) bs))) (drop from (take e.slots ss)) ∷ lines_read e.text e.slots es bs ss

abbrev pub buffered : {T M : Type 0} → Fields T M → BufferedLines T M
buffered f = record {
  lines = lines_read 0 0 f.ends f.text f.slots;
  line = elements_read 0 (chars (drop f.start f.text)) (drop f.slot_start f.slots);
}

-- the fields hold the lines that are read from them
abbrev pub HoldLines : {T M : Type 0} → Fields T M → Type 0
HoldLines f = IsStored f (buffered f).lines (buffered f).line

-- ---- the place of one line

abbrev pub no_end : LineEnd
no_end = record { text = 0; slots = 0; columns = None }

-- where a line begins, by the end of the line before it, and where it ends
abbrev pub place_after : LineEnd → LineEnd → LinePlace
place_after before end = record { text = before.text; slots = before.slots; text_end = end.text; slots_end = end.slots }

abbrev pub place_of : List LineEnd → ℕ → LinePlace
place_of es zero = place_after no_end (slice_index_or es 0 no_end)
place_of es (suc n) = place_after (slice_index_or es n no_end) (slice_index_or es (suc n) no_end)

-- a line's text with its newline begins and ends between characters
pub record IsTextPlace (bs : List ℕ) (p : LinePlace) : Type 0 where
  pub ordered : p.text < p.text_end
  pub within : p.text_end ≤ length bs
  pub begins : IsCharBoundary bs p.text
  pub stops : IsCharBoundary bs (p.text_end - 1)
  pub ends : IsCharBoundary bs p.text_end
