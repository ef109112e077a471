-- Each iteration of the loop applies the declarations of the next rule if it selects the element.
use Rattle.std.proofs.Common.{◌≡◌, [], sym, ap, ◌∙◌, arith, map, option_copied}
use Rattle.std.specs.List.{flat_map}
use Rattle.std.proofs.lemmas.List.{take_all}
use Rattle.std.proofs.lemmas.List.Folds.{flat_map-map}
use Rattle.html_render_dom_styles.specs.Rules.{rule_of}
use Rattle.html_render_dom_styles.specs.Selectors.{selects}
use Rattle.html_render_dom.specs.Applying.{style_by, with_declarations}
use Rattle.html_render_dom.proofs.Applies.{said_to, said_to-all, said_to-selected, said_to-other, with_declarations-more}
use Rattle.html_render_dom.proofs.style.computed.computed_style.Goals as goal
use Rattle.html_render_dom.proofs.style.computed.computed_style.Goals.{then-selects+in_ok-update_all, else-selects}

pub loop-rule-preserved : goal.loop-rule-preserved
loop-rule-preserved c =
    let asked = selects c.args.element.now (option_copied c.first_value-id.result) (option_copied c.first_value-classes.result) in
    let rule = c.rule-item.result in
    let old = c.loop-rule.style in
    let turn : c.if-selects.style ≡ with_declarations old (said_to asked (rule_of rule)) = elim c.if-selects.branch [
      | then-selects+in_ok-update_all w ↦ (
          w.style-is
          ∙ w.in_ok-update_all.ensures
          ∙ ap (with_declarations old) (said_to-selected asked (rule_of rule) (sym c.selects.ensures ∙ w.if-selects.true))
          )
      | else-selects w ↦ w.style-is ∙ said_to-other asked (rule_of rule) old (sym c.selects.ensures ∙ w.if-selects.false)
    ] in
    turn
    ∙ ap (λ s. with_declarations s (said_to asked (rule_of rule))) c.loop-rule.invariant
    ∙ with_declarations-more (λ r. said_to asked (rule_of r)) (style_by []) c.args.rules.now c.loop-rule.rule-index rule (omega arith) c.rule-item.is

pub returns-clause-ok : goal.returns-clause-ok
returns-clause-ok c =
    let rules = c.args.rules.now in
    let asked = selects c.args.element.now (option_copied c.first_value-id.result) (option_copied c.first_value-classes.result) in
    rw (← c.first_value-id.ensures, ← c.first_value-classes.ensures)
    (c.loop-rule.invariant
    ∙ ap (λ rs. style_by (flat_map (λ rule. said_to asked (rule_of rule)) rs)) (take_all c.loop-rule.rule-index rules (omega arith))
    ∙ ap style_by (sym (flat_map-map (said_to asked) rule_of rules) ∙ said_to-all asked (map rule_of rules)))
