use Rattle.std.proofs.Common.{◌≡◌, [], take, option_copied}
use Rattle.std.specs.List.{flat_map}
use Rattle.html_render_dom.specs.Applying.{style_by, with_declarations}
use Rattle.html_render_dom_styles.specs.Rules.{rule_of}
use Rattle.html_render_dom_styles.specs.Selectors.{selects}
use Rattle.html_render_dom.proofs.Applies.{said_to}
use Rattle.html_render_dom.proofs.style.computed.computed_style.Given as goal

abbrev pub invariant-loop-rule : goal.invariant-loop-rule
invariant-loop-rule l =
    l.style ≡ with_declarations (style_by [])
    (flat_map (λ rule. said_to (selects l.element (option_copied l.id) (option_copied l.classes)) (rule_of rule)) (take l.rule-index l.rules))
