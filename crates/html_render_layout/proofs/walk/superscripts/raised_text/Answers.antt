use Rattle.std.proofs.Common.{◌≡◌, ℕ, List, [], ◌∷◌, ◌++◌, ◌∙◌, ◌+◌, ◌<◌, ◌≤◌, length, sym, ap, map, take, get_or, append-nil, arith}
use Rattle.std.proofs.lemmas.List.{map_more, take_all}
use Rattle.std.specs.String.{string_bytes}
use Rattle.std.proofs.lemmas.Str.{IsUtf8-string_bytes, chars_from_encodes, encodes-append}
use Rattle.html_render_layout.specs.Layout.{raised}
use lib.Utf8.{encode, encodes}
use Rattle.html_render_layout.proofs.walk.superscripts.raised_text.Goals as goal

more : (old new digits : List ℕ) (i c : ℕ) → i < length digits → c ≡ raised (get_or digits i 0) →
    old ≡ encodes (map raised (take i digits)) → new ≡ old ++ encode c → new ≡ encodes (map raised (take (i + 1) digits))
more old new digits i c low is before e =
    let next = raised (get_or digits i 0) in
    e ∙ ap (λ b. b ++ encode c) before ∙ ap (λ d. encodes (map raised (take i digits)) ++ encode d) is
    ∙ ap (λ b. encodes (map raised (take i digits)) ++ b) (sym (append-nil (encode next)))
    ∙ sym (encodes-append (map raised (take i digits)) (next ∷ []))
    ∙ ap encodes (sym (map_more raised digits i 0 low))

all : (digits : List ℕ) (i : ℕ) → length digits ≤ i → map raised (take i digits) ≡ map raised digits
all digits i past = ap (map raised) (take_all i digits past)

pub loop-digit-preserved : goal.loop-digit-preserved
loop-digit-preserved c =
    more (string_bytes c.loop-digit.text) _ c.args.digits.now c.loop-digit.digit-index c.raised.result
    (omega (arith, c.loop-digit-test.true, ap length c.as_bytes-digit-items.ensures.value))
    (c.raised.ensures ∙ ap (λ ds. raised (get_or ds c.loop-digit.digit-index 0)) c.as_bytes-digit-items.ensures.value)
    c.loop-digit.invariant c.in_ok-push.ensures.bytes

pub returns : goal.returns
returns c =
    sym (chars_from_encodes (map raised (take c.loop-digit.digit-index c.args.digits.now)) (string_bytes c.loop-digit.text)
    (IsUtf8-string_bytes c.loop-digit.text) (sym c.loop-digit.invariant))
    ∙ all c.args.digits.now c.loop-digit.digit-index (omega (arith, c.loop-digit-test.false, ap length c.as_bytes-digit-items.ensures.value))
