use Rattle.std.proofs.Common.{◌≡◌, ◌++◌, sym, ap, ◌∙◌}
use Rattle.std.proofs.lemmas.Str.{chars_past_char}
use Rattle.std.specs.Prelude.{encode_utf8}
use Rattle.html_render_layout_estimates.proofs.text.first_character.Goals as goal

pub returns-clause-characters : goal.returns-clause-characters
returns-clause-characters c =
    let first = c.in_ok-c.c in
    let rest = c.as_str.result.now in
    let e : c.args.text.now ≡ encode_utf8 first ++ rest =
    sym c.chars-chars.ensures.rest ∙ c.in_ok-c.ensures.steps.0 ∙ ap (λ t. encode_utf8 first ++ t) (sym c.as_str.ensures) in
    chars_past_char _ rest first c.utf8.text e
