use Rattle.std.proofs.Common.{◌≡◌, ◌<◌, ◌∷◌, ◌++◌, ℕ, List, length, arith, sym, ap, ◌∙◌, lit<}
use Rattle.std.specs.Str.{IsUtf8}
use Rattle.std.proofs.lemmas.Str.{IsUtf8-past_char, encode_ascii}
use Rattle.html_render_dom.specs.script.Commands.{unescaped}
use Rattle.html_render_dom.specs.laws.script.Escapes.{unescaped-unknown}
use Rattle.html_render_dom.proofs.script.escapes.escape_of.Goals as goal

-- the text after a byte of ASCII is UTF-8
text_after : (after more : List ℕ) (c : ℕ) → c < 128 → IsUtf8 after → after ≡ c ∷ more → IsUtf8 more
text_after after more c low text e =
    IsUtf8-past_char after more c text (e ∙ ap (λ (x : List ℕ). x ++ more) (sym (encode_ascii c low)))

pub returns-in-Some : goal.returns-in-Some
returns-in-Some c =
    let e = c.in-Some.ensures in
    (lit< tt, omega (arith, ap length e), text_after _ _ 110 (lit< tt) c.utf8.after e, ap (λ (bs : List ℕ). unescaped (92 ∷ bs)) e)

pub returns-in-Some-after_byte : goal.returns-in-Some-after_byte
returns-in-Some-after_byte c =
    let e = c.in-Some-after_byte.ensures in
    (lit< tt, omega (arith, ap length e), text_after _ _ 92 (lit< tt) c.utf8.after e, ap (λ (bs : List ℕ). unescaped (92 ∷ bs)) e)

pub returns-in-None : goal.returns-in-None
returns-in-None c = unescaped-unknown c.args.after.now c.in_default.ensures c.in-None.ensures
