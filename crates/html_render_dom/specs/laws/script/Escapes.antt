-- Escapes are resolved from the start of a text.
use Rattle.std.specs.Prelude.{◌≡◌, ◌≢◌, ◌==◌, ℕ, false, List, [], ◌∷◌, ◌++◌, Option, Some, None}
use Rattle.std.proofs.Common.{refl, ap, sym, ◌∙◌}
use Rattle.std.proofs.lemmas.Bool.{ne_eqb}
use Rattle.std.proofs.lemmas.List.{append_assoc}
use Rattle.std.proofs.lemmas.List.Elements.{All-head, All-tail}
use Rattle.html_render_dom.specs.script.Commands.{unescaped}
use Rattle.html_render_dom.specs.script.Plain.{Lacks, text_followed_by}

pub text_followed_by-nil : (o : Option (List ℕ)) → text_followed_by [] o ≡ o
text_followed_by-nil None = refl
text_followed_by-nil (Some c) = refl

pub text_followed_by-twice : (a b : List ℕ) (o : Option (List ℕ)) → text_followed_by a (text_followed_by b o) ≡ text_followed_by (a ++ b) o
text_followed_by-twice a b None = refl
text_followed_by-twice a b (Some c) = ap Some (sym (append_assoc a b c))

-- a byte that is no backslash is left as it is
unescaped-byte : (b : ℕ) (rest : List ℕ) → (b == 92) ≡ false → unescaped (b ∷ rest) ≡ text_followed_by (b ∷ []) (unescaped rest)
unescaped-byte b [] other = rw other
unescaped-byte b (c ∷ rest) other = rw other

-- a front without a backslash is left as it is
pub unescaped-front : (front rest : List ℕ) → Lacks 92 front → unescaped (front ++ rest) ≡ text_followed_by front (unescaped rest)
unescaped-front [] rest plain = sym (text_followed_by-nil (unescaped rest))
unescaped-front (b ∷ bs) rest plain =
    unescaped-byte b (bs ++ rest) (All-head (λ (x : ℕ). (x == 92) ≡ false) b bs plain)
    ∙ ap (text_followed_by (b ∷ [])) (unescaped-front bs rest (All-tail (λ (x : ℕ). (x == 92) ≡ false) b bs plain))
    ∙ text_followed_by-twice (b ∷ []) bs (unescaped rest)

-- a text without a backslash is left as it is
pub unescaped-plain : (bs : List ℕ) → Lacks 92 bs → unescaped bs ≡ Some bs
unescaped-plain [] plain = refl
unescaped-plain (b ∷ bs) plain =
    unescaped-byte b bs (All-head (λ (x : ℕ). (x == 92) ≡ false) b bs plain)
    ∙ ap (text_followed_by (b ∷ [])) (unescaped-plain bs (All-tail (λ (x : ℕ). (x == 92) ≡ false) b bs plain))

-- no other escape is known
pub unescaped-unknown : (after : List ℕ) → ((rest : List ℕ) → after ≢ 110 ∷ rest) → ((rest : List ℕ) → after ≢ 92 ∷ rest) → unescaped (92 ∷ after) ≡ None
unescaped-unknown [] feed slash = refl
unescaped-unknown (c ∷ rest) feed slash =
    rw (ne_eqb c 110 (λ e. feed rest (ap (λ (x : ℕ). x ∷ rest) e))) (rw (ne_eqb c 92 (λ e. slash rest (ap (λ (x : ℕ). x ∷ rest) e))) refl)

-- one escape, and the text before it
pub unescaped-step : (was rest before after more : List ℕ) (byte : ℕ) → rest ≡ before ++ 92 ∷ after → Lacks 92 before →
    unescaped (92 ∷ after) ≡ text_followed_by (byte ∷ []) (unescaped more) → text_followed_by was (unescaped rest) ≡ text_followed_by ((was ++ before) ++ byte ∷ []) (unescaped more)
unescaped-step was rest before after more byte cut plain known =
    ap (λ (bs : List ℕ). text_followed_by was (unescaped bs)) cut
    ∙ ap (text_followed_by was) (unescaped-front before (92 ∷ after) plain)
    ∙ text_followed_by-twice was before (unescaped (92 ∷ after))
    ∙ ap (text_followed_by (was ++ before)) known
    ∙ text_followed_by-twice (was ++ before) (byte ∷ []) (unescaped more)

-- a text with an unknown escape has no value
pub unescaped-stop : (was rest before after : List ℕ) → rest ≡ before ++ 92 ∷ after → Lacks 92 before → unescaped (92 ∷ after) ≡ None →
    text_followed_by was (unescaped rest) ≡ None
unescaped-stop was rest before after cut plain unknown =
    ap (λ (bs : List ℕ). text_followed_by was (unescaped bs)) cut
    ∙ ap (text_followed_by was) (unescaped-front before (92 ∷ after) plain ∙ ap (text_followed_by before) unknown)
