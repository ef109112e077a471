-- THE MACHINE of a paragraph, which is fed character by character.
use Rattle.std.specs.Prelude.{ℕ, Bool, false, List, [], ◌∷◌, ◌++◌, Option, Some, None, is_some, map, option_and_then, option_map, if◌then◌else◌}
use Rattle.std.specs.Bool.{beq}
use Rattle.std.specs.Option.{option_or}
use Rattle.html_render_dom_values.specs.WhiteSpace.{preserves, wraps}
use Rattle.html_render_layout_lines.specs.declared.character.Kind.{Kind}
use Rattle.html_render_layout_lines.specs.declared.character.Kind.TheVariants.{Letter, Space, Divider, Dropped, Preserved}
use Rattle.html_render_layout_lines.specs.declared.character.Character.{Character}
use Rattle.html_render_layout_lines.specs.declared.character.Item.{Item}
use Rattle.html_render_layout_lines.specs.declared.character.TextStyle.{TextStyle}
use Rattle.html_render_layout_lines.specs.declared.character.Item.TheVariants as item
use Rattle.html_render_layout_lines.specs.Character.{kind, character_of}
use Rattle.html_render_layout_lines.specs.Line.{Line}
use Rattle.html_render_layout_paragraphs.specs.Paragraph.{LineBuffer, Setting, empty_buffer, with_waiting_mark, put_single, put_items, page_for_single, all_lines}
use Rattle.html_render_layout_paragraphs.specs.Placing.{put_word}

-- Line buffer, pending space, and open word, with whether white space is preserved in its text. `open_word` is None if no
-- word is open.
pub record State (T M : Type 0) : Type 0 where
  pub setting : Setting
  pub page : LineBuffer T M
  pub pending : Option (Character T)
  pub word : List (Item T M)
  pub open_word : Option Bool

-- Empty paragraph with waiting marks.
abbrev pub start : {T M : Type 0} → Setting → List M → State T M
start s marks = record { setting = s; page = empty_buffer marks; pending = None; word = []; open_word = None }

-- State with another line buffer, if there is one.
abbrev pub on_page : {T M : Type 0} → State T M → Option (LineBuffer T M) → Option (State T M)
on_page {T} {M} st o = option_map (λ (p : LineBuffer T M). record st { page = p }) o

-- State with its word placed and no word open.
abbrev pub placed_word : {T M : Type 0} → State T M → Option (State T M)
placed_word {T} {M} st =
    option_map (λ (p : LineBuffer T M). record { setting = st.setting; page = p; pending = None; word = []; open_word = None })
    (put_word st.setting st.page st.pending st.word)

-- State with its open word placed, if there is one.
abbrev pub end_word : {T M : Type 0} → State T M → Option (State T M)
end_word st = if is_some st.open_word then placed_word st else Some st

-- Whether a letter joins the open word: if white space is preserved in both texts or in neither.
abbrev pub joins : Option Bool → Bool → Bool
joins None k = false
joins (Some j) k = beq k j

-- State with a new open word of one letter.
abbrev pub begin_word : {T M : Type 0} → State T M → Character T → State T M
begin_word st c = record st { word = item.Character c ∷ []; open_word = Some (preserves c.mode) }

-- State after a letter, which joins the open word or begins another.
abbrev pub letter_step : {T M : Type 0} → State T M → Character T → Option (State T M)
letter_step {T} {M} st c =
    if joins st.open_word (preserves c.mode) then Some (record st { word = st.word ++ item.Character c ∷ [] })
    else option_map (λ (t : State T M). begin_word t c) (end_word st)

-- State with a character placed by itself, while no word is open.
abbrev pub single_step : {T M : Type 0} → State T M → Kind → Character T → Option (State T M)
single_step {T} {M} st k c =
    option_map (λ (p : LineBuffer T M). record st { page = p; pending = None })
    (put_single st.setting (page_for_single st.setting st.page st.pending k) k c)

-- State with its open word placed, and then a character placed by itself.
abbrev pub then_single : {T M : Type 0} → State T M → Kind → Character T → Option (State T M)
then_single {T} {M} st k c = option_and_then (λ (t : State T M). single_step t k c) (end_word st)

-- State with a pending space. One that is pending already is kept.
abbrev pub with_pending : {T M : Type 0} → State T M → Character T → State T M
with_pending st c = record st { pending = option_or st.pending (Some c) }

-- State after a character of a kind.
abbrev pub character_step : {T M : Type 0} → Kind → State T M → Character T → Option (State T M)
character_step Letter st c = letter_step st c
character_step {T} {M} Space st c = option_map (λ (t : State T M). with_pending t c) (end_word st)
character_step Divider st c = end_word st
character_step Dropped st c = Some st
character_step k st c = then_single st k c

-- State after a mark, which joins the open word or waits.
abbrev pub mark_step : {T M : Type 0} → State T M → M → State T M
mark_step st m =
    if is_some st.open_word then record st { word = st.word ++ item.Mark m ∷ [] } else record st { page = with_waiting_mark st.page m }

-- State after one character or mark. None if a placed character is wider than a line, with overflow off.
abbrev pub step : {T M : Type 0} → State T M → Item T M → Option (State T M)
step st (item.Character c) = character_step (kind c.mode c.code) st c
step st (item.Mark m) = Some (mark_step st m)

-- State after a list of characters and marks. None if a placed character is wider than a line, with overflow off.
abbrev pub after : {T M : Type 0} → State T M → List (Item T M) → Option (State T M)
after st [] = Some st
after {T} {M} st (x ∷ xs) = option_and_then (λ (t : State T M). after t xs) (step st x)

-- Line buffer of all that was fed. None, with overflow off, if a character of the open word is wider than a line.
abbrev pub finished : {T M : Type 0} → State T M → Option (LineBuffer T M)
finished {T} {M} st = option_map (λ (t : State T M). t.page) (end_word st)

-- Characters of a text, each with the mode and the tags of a style.
abbrev pub styled : {T M : Type 0} → TextStyle T → List ℕ → List (Item T M)
styled style cs = map (λ c. item.Character (character_of style c)) cs

-- State after consecutive letters, at least one, which join the open word or begin another.
abbrev pub letters_step : {T M : Type 0} → State T M → TextStyle T → List ℕ → Option (State T M)
letters_step {T} {M} st style cs =
    if joins st.open_word (preserves style.mode) then Some (record st { word = st.word ++ styled style cs })
    else option_map (λ (t : State T M). record t { word = styled style cs; open_word = Some (preserves style.mode) }) (end_word st)

-- State with characters of a text placed by themselves as they are, while no word is open.
abbrev pub singles_step : {T M : Type 0} → State T M → TextStyle T → List ℕ → Option (State T M)
singles_step {T} {M} st style cs =
    option_map (λ (p : LineBuffer T M). record st { page = p; pending = None })
    (put_items st.setting (page_for_single st.setting st.page st.pending Preserved) (styled style cs))

-- State with its open word placed, and then characters of a text placed by themselves.
abbrev pub then_singles : {T M : Type 0} → State T M → TextStyle T → List ℕ → Option (State T M)
then_singles {T} {M} st style cs = option_and_then (λ (t : State T M). singles_step t style cs) (end_word st)

-- State after a stretch of at least one character: letters, or characters that are placed by themselves.
abbrev pub stretch_step : {T M : Type 0} → State T M → TextStyle T → List ℕ → Option (State T M)
stretch_step st style cs = if wraps style.mode then letters_step st style cs else then_singles st style cs

-- Lines followed by those of a finished line buffer, and an empty paragraph with the marks that still wait.
abbrev pub flushed_to : {T M : Type 0} → Setting → List (Line T M) → LineBuffer T M → List (Line T M) × State T M
flushed_to s lines page = (lines ++ all_lines page, start s page.waiting)
