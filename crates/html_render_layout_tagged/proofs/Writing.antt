-- Lines under a colour map, string by string and line by line.
use Rattle.std.proofs.Common.{◌≡◌, ℕ, List, [], ◌∷◌, ◌++◌, length, Result, String, Vec, refl, sym, ap, ◌∙◌, subst, arith, Bor}
use Rattle.std.specs.declared.alloc.Global.{Global}
use Rattle.html_render_dom_values.specs.declared.errors.Error.{Error}
use Rattle.html_render_layout_tagged.specs.declared.line.TaggedLineElement.{TaggedLineElement}
use Rattle.html_render_layout_tagged.specs.declared.line.TaggedLineElement.TheVariants as made
use Rattle.html_render_layout_tagged.specs.declared.line.TaggedString.{TaggedString}
use Rattle.html_render_layout_tagged.specs.Grouping.{pieces_of, lines_of}
use Rattle.html_render_layout_tagged.specs.Colouring.{MayAnswer, IsColouredLine, IsColoured}
use Rattle.std.specs.Prelude.{string_bytes}
use Rattle.std.specs.Str.{chars}

module _ {F A : Type 0} (step : F → Bor (List A) → Bor (List ℕ) → Result (String Global) Error → F → Type 0) where
  -- the map's result for a first string, before the text of the other elements
  pub IsColouredLine-string : (before next after : F) (es others : List (TaggedLineElement (Vec A Global))) (e : TaggedLineElement (Vec A Global))
      (s : TaggedString (Vec A Global)) (answer : String Global) (rest : List ℕ) → es ≡ e ∷ others → e ≡ made.Str s →
      MayAnswer step before (chars (string_bytes s.s)) s.tag.items answer next → IsColouredLine step next (pieces_of others) rest after →
      IsColouredLine step before (pieces_of es) (string_bytes answer ++ rest) after
  IsColouredLine-string before next after es others e s answer rest split is may h =
      subst (λ x. IsColouredLine step before (pieces_of x) (string_bytes answer ++ rest) after) (sym (split ∙ ap (λ x. x ∷ others) is))
      (answer, rest, next, may, h, refl)

  pub IsColouredLine-end : (before : F) (es : List (TaggedLineElement (Vec A Global))) → length es ≡ 0 → IsColouredLine step before (pieces_of es) (10 ∷ []) before
  IsColouredLine-end before [] h = (refl, refl)
  IsColouredLine-end before (e ∷ es) h = absurd (omega (arith, h))

  -- the text of a first line, before that of the others
  pub IsColoured-line : (before next after : F) (lines others : List (List (TaggedLineElement (Vec A Global))))
      (line : List (TaggedLineElement (Vec A Global))) (first rest : List ℕ) → lines ≡ line ∷ others →
      IsColouredLine step before (pieces_of line) first next → IsColoured step next (lines_of others) rest after →
      IsColoured step before (lines_of lines) (first ++ rest) after
  IsColoured-line before next after lines others line first rest split one h =
      subst (λ x. IsColoured step before (lines_of x) (first ++ rest) after) (sym split) (first, rest, next, one, h, refl)

  pub IsColoured-end : (before : F) (lines : List (List (TaggedLineElement (Vec A Global)))) → length lines ≡ 0 → IsColoured step before (lines_of lines) [] before
  IsColoured-end before [] h = (refl, refl)
  IsColoured-end before (l ∷ ls) h = absurd (omega (arith, h))
