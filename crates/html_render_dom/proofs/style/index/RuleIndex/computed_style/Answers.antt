use Rattle.std.proofs.Common.{map, option_copied, ap, ◌∙◌}
use Rattle.std.specs.List.{flat_map}
use Rattle.html_render_dom_styles.specs.Rules.{rule_of}
use Rattle.html_render_dom_styles.specs.Selectors.{selects}
use Rattle.html_render_dom.specs.Applying.{style_by}
use Rattle.html_render_dom.specs.RuleIndex.{said_at}
use Rattle.html_render_dom.proofs.RuleIndex.{offered}
use Rattle.html_render_dom.proofs.style.index.RuleIndex.computed_style.Goals as goal

pub returns-clause-ok : goal.returns-clause-ok
returns-clause-ok c =
    let rules = map rule_of c.args.rules.now in
    let name = c.args.element.now in
    let id = option_copied c.first_value-id.result in
    let classes = option_copied c.first_value-classes.result in
    let numbers = c.in_ok-numbers.ensures in
    rw (← c.first_value-id.ensures, ← c.first_value-classes.ensures)
    (c.in_ok-style_of_rules.ensures
    ∙ ap (λ ns. style_by (flat_map (said_at (selects name id classes) rules) ns)) c.as_slice.ensures.value
    ∙ ap style_by (offered c.args.self.now rules name id classes c.in_ok-texts.texts.items c.in_ok-numbers.numbers.items c.requires
    c.in_ok-texts.ensures numbers.found numbers.general numbers.ascending))
