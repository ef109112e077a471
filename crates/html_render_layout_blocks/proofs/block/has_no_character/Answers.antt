use Rattle.std.proofs.Common.{◌≡◌, ℕ, List, [], ◌∷◌, length, eqb, false, arith, ap, sym, ◌∙◌}
use Rattle.std.proofs.lemmas.Bool.Decides.{nat_tests}
use Rattle.std.proofs.lemmas.Str.{chars-nil, encodes-chars}
use Rattle.std.specs.Str.{chars, IsUtf8}
use lib.Utf8.{encodes}
use Rattle.html_render_layout_blocks.proofs.block.has_no_character.Goals as goal

nonempty : (x : ℕ) (xs : List ℕ) → eqb (length (x ∷ xs)) 0 ≡ false
nonempty x xs = grind (arith, nat_tests)

is_empty-chars : (bs : List ℕ) → IsUtf8 bs → eqb (length bs) 0 ≡ eqb (length (chars bs)) 0
is_empty-chars [] h = ap (λ xs. eqb (length xs) 0) (sym chars-nil)
is_empty-chars (b ∷ bs) h = by (chars (b ∷ bs)) (encodes-chars (b ∷ bs) h)
  where
    by : (cs : List ℕ) → encodes cs ≡ b ∷ bs → eqb (length (b ∷ bs)) 0 ≡ eqb (length cs) 0
    by [] e = cc
    by (x ∷ xs) e = nonempty b bs ∙ sym (nonempty x xs)

pub returns : goal.returns
returns c = c.is_empty.ensures ∙ is_empty-chars c.args.text.now c.utf8.text
