use Rattle.std.proofs.Common.{rules as known, [], map, ap, sym, subst, ◌∙◌, string_bytes, ◌≡◌}
use Rattle.std.specs.Prelude.{All}
use Rattle.std.proofs.lemmas.List.Elements.{All-push}
use Rattle.html_render_dom.specs.ElementStyle.{element_style}
use Rattle.html_render_dom.specs.RuleIndex.{IsPlain}
use Rattle.html_render_dom.specs.declared.style.index.PlainStyle.{PlainStyle}
use Rattle.html_render_dom_styles.specs.Rules.{rule_of}
use Rattle.html_render_dom.proofs.style.index.RuleIndex.add_plain.Goals as goal

pub returns-clause-ok : goal.returns-clause-ok
returns-clause-ok c = λ all.
    let rules = map rule_of c.args.rules.now in
    let name = c.in_ok-clone.field-0 in
    let made : PlainStyle = record { name = name; style = c.in_ok-style.style } in
    let same : string_bytes name ≡ string_bytes c.in-Some.name = search known in
    subst (All (IsPlain rules)) (sym c.in_ok-push.ensures.items)
    (All-push (IsPlain rules) c.args.plain.now.items made all
    (c.in_ok-style.ensures.ok ∙ ap (λ n. element_style rules n []) (c.as_str-2.ensures.value ∙ sym same)))
