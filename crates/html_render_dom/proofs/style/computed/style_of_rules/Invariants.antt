use Rattle.std.proofs.Common.{◌≡◌, [], map, take, option_copied}
use Rattle.std.specs.List.{flat_map}
use Rattle.html_render_dom.specs.Applying.{style_by, with_declarations}
use Rattle.html_render_dom.specs.RuleIndex.{said_at}
use Rattle.html_render_dom_styles.specs.Rules.{rule_of}
use Rattle.html_render_dom_styles.specs.Selectors.{selects}
use Rattle.html_render_dom.proofs.style.computed.style_of_rules.Given as goal

abbrev pub invariant-loop-number : goal.invariant-loop-number
invariant-loop-number l =
    l.style ≡ with_declarations (style_by [])
    (flat_map (said_at (selects l.element (option_copied l.id) (option_copied l.classes)) (map rule_of l.rules)) (take l.number-index l.numbers))
