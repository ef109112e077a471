-- Spaces of a tab, placed as one text.
use Rattle.std.proofs.Common.{◌≡◌, ℕ, zero, suc, ◌-◌, ◌<◌, ◌≤◌, List, [], ◌∷◌, map, take, length, get_or, replicate, refl, ap, ◌∙◌, arith}
use Rattle.std.specs.Str.{chars, IsCharBoundary, IsAscii}
use Rattle.std.proofs.lemmas.List.{take-replicate, length-replicate}
use Rattle.std.proofs.lemmas.List.Sums.{sum_by-cons}
use Rattle.std.proofs.lemmas.Str.{chars-IsAscii, IsCharBoundary-from_ascii}
use Rattle.html_render_layout_lines.specs.declared.character.Item.{Item}
use Rattle.html_render_layout_lines.specs.declared.character.Item.TheVariants as item
use Rattle.html_render_layout_lines.specs.declared.character.TextStyle.{TextStyle}
use Rattle.html_render_layout_lines.specs.Character.{width_of, character_of}
use Rattle.html_render_layout_lines.specs.TaggedText.{text_columns}
use Rattle.html_render_layout_lines.specs.laws.Columns.{width-space}
use Rattle.html_render_layout_paragraphs.specs.Stream.{styled}

ascii-spaces : (n : ℕ) → IsAscii (replicate n 32)
ascii-spaces n = ascii n
  where
    ascii : (n i : ℕ) → get_or (replicate n 32) i 0 < 128
    ascii zero i = omega arith
    ascii (suc n) zero = omega arith
    ascii (suc n) (suc i) = ascii n i

pub spaces-boundary : (text : List ℕ) (count all : ℕ) → text ≡ replicate all 32 → count ≤ all → IsCharBoundary text count
spaces-boundary text count all e h =
    rw e (IsCharBoundary-from_ascii (replicate all 32) count (ascii-spaces all) (omega (arith, h, length-replicate {A = ℕ} all 32)))

pub few-spaces : (text : List ℕ) (count all : ℕ) → text ≡ replicate all 32 → count ≤ all → take (count - 0) text ≡ replicate count 32
few-spaces text count all e h = let same : count - 0 ≡ count = omega arith in rw (e, same) (take-replicate count all 32 h)

pub chars-spaces : (n : ℕ) → chars (replicate n 32) ≡ replicate n 32
chars-spaces n = chars-IsAscii (replicate n 32) (ascii-spaces n)

-- Each space has one column.
pub columns-spaces : (n : ℕ) → text_columns (replicate n 32) ≡ n
columns-spaces zero = refl
columns-spaces (suc n) = omega (arith, sum_by-cons width_of 32 (replicate n 32), width-space, columns-spaces n)

pub styled-spaces : {T : Type 0} (M : Type 0) (style : TextStyle T) (n : ℕ) →
    styled {M = M} style (replicate n 32) ≡ map (λ d. item.Character d) (replicate n (character_of style 32))
styled-spaces M style zero = refl
styled-spaces {T} M style (suc n) = ap (λ (xs : List (Item T M)). item.Character (character_of style 32) ∷ xs) (styled-spaces M style n)

pub ruleset tabs = (chars-spaces, columns-spaces, styled-spaces)
