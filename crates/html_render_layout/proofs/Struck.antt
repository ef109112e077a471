-- Struck-out texts, character by character.
use Rattle.std.proofs.Common.{◌≡◌, ℕ, List, [], ◌∷◌, ◌++◌, Bool, true, false, cond, refl, sym, ap, ◌∙◌}
use Rattle.std.proofs.lemmas.Str.{encodes-append}
use Rattle.html_render_layout_lines.specs.Character.{is_collapsible}
use Rattle.html_render_layout.specs.Layout.{struck}
use lib.Utf8.{encodes}

both-ways : (b : Bool) (c : ℕ) (all front back : List ℕ) → all ≡ front ++ back →
    cond b (c ∷ all) (c ∷ (822 ∷ all)) ≡ cond b (c ∷ front) (c ∷ (822 ∷ front)) ++ back
both-ways true c all front back e = ap (λ r. c ∷ r) e
both-ways false c all front back e = ap (λ r. c ∷ (822 ∷ r)) e

pub struck-append : (cs ds : List ℕ) → struck (cs ++ ds) ≡ struck cs ++ struck ds
struck-append [] ds = refl
struck-append (c ∷ cs) ds = both-ways (is_collapsible c) c (struck (cs ++ ds)) (struck cs) (struck ds) (struck-append cs ds)

-- one more character
pub struck-more : (old new cs : List ℕ) (c : ℕ) → old ≡ encodes (struck cs) → new ≡ old ++ encodes (struck (c ∷ [])) →
    new ≡ encodes (struck (cs ++ c ∷ []))
struck-more old new cs c before more =
    more ∙ ap (λ b. b ++ encodes (struck (c ∷ []))) before ∙ sym (encodes-append (struck cs) (struck (c ∷ [])))
    ∙ ap encodes (sym (struck-append cs (c ∷ [])))
