use Rattle.std.proofs.Common.{◌≡◌, ◌++◌, length, sym, ap, ◌∙◌, arith, length-append}
use Rattle.std.proofs.lemmas.Str.{chars_past_char, IsUtf8-past_char, length-encode, len_utf8_bounds}
use Rattle.std.specs.Prelude.{encode_utf8}
use Rattle.html_render_layout_lines.proofs.character.split_first_character.Goals as goal

pub returns : goal.returns
returns c =
    let first = c.in-Some.c in
    let rest = c.as_str.result.now in
    let e : c.args.text.now ≡ encode_utf8 first ++ rest =
    sym c.chars-chars.ensures.rest ∙ c.in-Some.ensures.steps.0 ∙ ap (λ t. encode_utf8 first ++ t) (sym c.as_str.ensures) in
    record {
      bytes = e;
      characters = chars_past_char _ rest first c.utf8.text e;
      shorter = omega (arith, ap length e, length-append (encode_utf8 first) rest, length-encode first, (len_utf8_bounds first).0);
      text = IsUtf8-past_char _ rest first c.utf8.text e;
    }
