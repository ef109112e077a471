-- Ended lines and an open one.
use Rattle.std.specs.Prelude.{◌≡◌, ℕ, List, [], ◌∷◌, ◌++◌, All}
use Rattle.std.specs.Str.{chars}
use Rattle.std.specs.List.{flat_map}
use Rattle.html_render_layout_lines.specs.Line.{Line, text_bytes}
use Rattle.html_render_layout_lines.specs.TaggedText.{under}
use Rattle.html_render_layout_buffer.specs.Padding.{repeated}

-- ended lines, and the open line
pub record BufferedLines (T M : Type 0) : Type 0 where
  pub lines : List (Line T M)
  pub line : Line T M

-- no ended line, and nothing on the open line
abbrev pub no_lines : {T M : Type 0} → BufferedLines T M
no_lines = record { lines = []; line = [] }

-- the bytes of lines, with a newline at the end of each
abbrev pub lines_bytes : {T M : Type 0} → List (Line T M) → List ℕ
lines_bytes {T} {M} ls = flat_map (λ (l : Line T M). text_bytes l ++ 10 ∷ []) ls

-- the bytes of ended lines, with a newline at the end of each, and then those of the open line
abbrev pub all_bytes : {T M : Type 0} → BufferedLines T M → List ℕ
all_bytes b = lines_bytes b.lines ++ text_bytes b.line

-- each line is a text under this tag
abbrev pub ArePlain : {T M : Type 0} → T → List (Line T M) → Type 0
ArePlain {T} {M} tag ls = All (λ (l : Line T M). l ≡ under tag (chars (text_bytes l))) ls

-- so many spaces at the end of the open line
abbrev pub with_spaces : {T M : Type 0} → BufferedLines T M → T → ℕ → BufferedLines T M
with_spaces b tag count = record { lines = b.lines; line = b.line ++ repeated tag 32 count }
