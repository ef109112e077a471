-- Finished lines in pieces: each is a buffer's lines, with what was put in front of the first one.
use Rattle.std.specs.Prelude.{◌≡◌, ℕ, ◌+◌, ◌≤◌, ◌<◌, Bool, true, ◌&&◌, nat_le, List, [], ◌∷◌, ◌++◌, Option, All, length, slice_index_or}
use Rattle.std.specs.List.{flat_map, list_all}
use Rattle.html_render_layout_lines.specs.Line.{Line, columns}
use Rattle.html_render_layout_lines.specs.TaggedText.{counted}
use Rattle.html_render_layout_buffer.specs.Lines.{BufferedLines}

-- lines with a front before the first one
abbrev pub with_front : {T M : Type 0} → Line T M → List (Line T M) → List (Line T M)
with_front front [] = []
with_front front (l ∷ ls) = (front ++ l) ∷ ls

-- the lines of pieces, one after another
abbrev pub lines_of : {T M : Type 0} → List (List (Line T M)) → List (Line T M)
lines_of {T} {M} pieces = flat_map (λ (p : List (Line T M)). p) pieces

-- each line has at least `least` columns
abbrev pub AllAtLeast : {T M : Type 0} → ℕ → List (Line T M) → Type 0
AllAtLeast {T} {M} least lines = All (λ (l : Line T M). least ≤ columns l) lines

-- what is known of pieces: how wide the lines of those between the first and last ones are, and the number of all lines
pub record ArePieces {T M : Type 0} (front back least count : ℕ) (pieces : List (List (Line T M))) : Type 0 where
  pub wide : (i : ℕ) → front ≤ i → i + back < length pieces → AllAtLeast least (slice_index_or pieces i [])
  pub counts : count ≡ length (lines_of pieces)

-- a piece has a line and no open one, and the columns of its front are counted
pub record IsPiece {T M : Type 0} (count : Option ℕ) (front : Line T M) (b : BufferedLines T M) : Type 0 where
  pub some : 0 < length b.lines
  pub closed : b.line ≡ []
  pub counts : count ≡ counted (columns front)

-- whether lines fit in `width` columns, the first after `first` columns and the others after `later` columns
abbrev pub fits_after : {T M : Type 0} → (first later width : ℕ) → List (Line T M) → Bool
fits_after first later width [] = true
fits_after {T} {M} first later width (l ∷ ls) =
    nat_le (first + columns l) width && list_all (λ (k : Line T M). nat_le (later + columns k) width) ls
