-- Printable ASCII characters other than the space, and the bytes of a character.
use Rattle.std.specs.Prelude.{ℕ, ◌≡◌, ◌≤◌, [], ◌∷◌, encode_utf8}
use Rattle.std.proofs.Common.{arith, sym, ap, ◌∙◌}
use Rattle.std.proofs.lemmas.List.{append-nil}
use Rattle.std.proofs.lemmas.Str.{chars_past_char, chars-nil}
use Rattle.std.specs.Str.{chars, IsUtf8}
use Rattle.std.proofs.lemmas.Grind.{common_steps}
use Rattle.unicode_width.specs.Width.{char_width}
use Rattle.html_render_layout_lines.specs.Character.{width_of}

pub plain_width : (c : ℕ) → 33 ≤ c → c ≤ 126 → width_of c ≡ 1
unfolding width_of char_width
plain_width c low high = grind (arith, common_steps)

-- the bytes of one character are that character
pub chars-one : (c : ℕ) → IsUtf8 (encode_utf8 c) → chars (encode_utf8 c) ≡ c ∷ []
chars-one c utf8 = chars_past_char (encode_utf8 c) [] c utf8 (sym (append-nil (encode_utf8 c))) ∙ ap (λ cs. c ∷ cs) chars-nil
