-- Parts of a text that a paragraph takes as slices: stretches, and words with the white space after them.
use Rattle.std.specs.Prelude.{◌≡◌, ℕ, ◌+◌, ◌≤◌, ◌<◌, nat_le, ◌&&◌, Bool, true, false, List, [], ◌∷◌, ◌++◌, Option, Some, None, take}
use Rattle.std.specs.Prelude.{drop, length, option_map, option_and_then}
use Rattle.std.specs.List.{list_all, slice_index}
use Rattle.std.specs.Str.{chars, IsCharBoundary}
use Rattle.html_render_dom_values.specs.declared.white_space.WhiteSpace.{WhiteSpace}
use Rattle.html_render_layout_lines.specs.declared.character.Kind.{Kind}
use Rattle.html_render_layout_lines.specs.declared.character.Kind.TheVariants.{Letter, Preserved}
use Rattle.html_render_layout_lines.specs.declared.character.TextStyle.{TextStyle}
use Rattle.html_render_layout_lines.specs.Character.{kind, character_of}
use Rattle.html_render_layout_lines.specs.declared.line.tagged_text.Run.{Run}
use Rattle.html_render_layout_lines.specs.declared.line.tagged_text.Run.TheVariants as run
use Rattle.html_render_layout_paragraphs.specs.Paragraph.{LineBuffer, Setting, put_items, with_waiting_mark}
use Rattle.html_render_layout_paragraphs.specs.Placing.{put_word}
use Rattle.html_render_layout_paragraphs.specs.Stream.{State, styled, with_pending}
use Rattle.html_render_layout_lines.specs.Line.{columns}
use Rattle.html_render_layout_lines.specs.TaggedText.{text_columns, under, style_tag}

-- Whether characters of a kind are in stretches: letters, and characters that are placed by themselves as they are.
abbrev pub is_stretch_kind : Kind → Bool
is_stretch_kind Letter = true
is_stretch_kind Preserved = true
is_stretch_kind k = false

-- Whether a character is in a stretch.
abbrev pub is_in_stretch : WhiteSpace → ℕ → Bool
is_in_stretch mode c = is_stretch_kind (kind mode c)

-- Whether the first `bytes` bytes of a text are a stretch of `width` columns.
pub record IsStretch (mode : WhiteSpace) (text : List ℕ) (bytes width : ℕ) : Type 0 where
  pub within : bytes ≤ length text
  pub boundary : IsCharBoundary text bytes
  pub characters : list_all (is_in_stretch mode) (chars (take bytes text)) ≡ true
  pub columns : width ≡ text_columns (chars (take bytes text))

-- Whether a byte is a printable ASCII character from `least` on.
abbrev pub is_ascii_from : (least : ℕ) → ℕ → Bool
is_ascii_from least c = nat_le least c && nat_le c 0x7E

-- Whether the first `bytes` bytes of a text are whole characters of `width` columns.
pub record IsFront (text : List ℕ) (bytes width : ℕ) : Type 0 where
  pub within : bytes ≤ length text
  pub boundary : IsCharBoundary text bytes
  pub columns : width ≡ text_columns (chars (take bytes text))

-- Whether `room` columns are free on the open line, which isn't empty, and no mark waits.
pub record HasFreeColumns {T M : Type 0} (st : State T M) (room : ℕ) : Type 0 where
  pub some : 0 < length st.page.line
  pub no_mark : st.page.waiting ≡ []
  pub fits : columns st.page.line + room ≤ st.setting.width

-- State with the first `n` bytes of a text on the open line, and the white space after them as the pending space.
abbrev pub with_words : {T M : Type 0} → State T M → TextStyle T → List ℕ → ℕ → State T M
with_words st style bs n = record st {
  page = record st.page { line = st.page.line ++ under (style_tag st.page.continues style) (chars (take n bs)) };
  pending = Some (character_of style (slice_index bs n));
}

-- State with a text placed as a word, while no word is open.
abbrev pub placed_text : {T M : Type 0} → State T M → TextStyle T → List ℕ → Option (State T M)
placed_text {T} {M} st style cs =
    option_map (λ (p : LineBuffer T M). record st { page = p; pending = None }) (put_word st.setting st.page st.pending (styled style cs))

-- State with a text placed as a word, and the white space after it as the pending space.
abbrev pub placed_text_and_space : {T M : Type 0} → State T M → TextStyle T → List ℕ → ℕ → Option (State T M)
placed_text_and_space {T} {M} st style cs space =
    option_map (λ (t : State T M). with_pending t (character_of style space)) (placed_text st style cs)

-- Line buffer with the characters and marks of runs over a text, placed one by one.
abbrev pub put_runs : {T M : Type 0} → Setting → LineBuffer T M → List (Run (TextStyle T) M) → List ℕ → Option (LineBuffer T M)
put_runs setting page [] bs = Some page
put_runs {T} {M} setting page (run.Text n style ∷ rs) bs =
    option_and_then (λ (p : LineBuffer T M). put_runs setting p rs (drop n bs)) (put_items setting page (styled style (chars (take n bs))))
put_runs setting page (run.Mark m ∷ rs) bs = put_runs setting (with_waiting_mark page m) rs bs
