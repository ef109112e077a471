-- Each iteration of the loop applies the declarations of the rule with the next number, if it selects the element.
use Rattle.std.proofs.Common.{◌≡◌, [], Bool, Option, Some, None, List, ℕ, map, filter, length, refl, sym, ap, ◌∙◌, get_or, option_copied, option_map, option_to_list, slice_get}
use Rattle.std.specs.List.{flat_map}
use Rattle.std.proofs.lemmas.List.{get_or_default}
use Rattle.std.proofs.lemmas.Option.{slice_get-map, slice_get_past, slice_get_read}
use Rattle.html_render_dom_styles.specs.declared.rules.StyleRule.{StyleRule}
use Rattle.html_render_dom_styles.specs.Rules.{Rule, rule_of}
use Rattle.html_render_dom_styles.specs.Selectors.{selects}
use Rattle.html_render_dom.specs.Applying.{applied, style_by, with_declarations}
use Rattle.html_render_dom.specs.RuleIndex.{said_at}
use Rattle.html_render_dom.proofs.Applies.{still, said_to-selected, said_to-other, with_declarations-more}
use Rattle.html_render_dom.proofs.style.computed.style_of_rules.Goals as goal
use Rattle.html_render_dom.proofs.style.computed.style_of_rules.Goals.{in-Some+then-selects+in_ok-update_all, in-Some+else-selects, in_default}

read : (asked : Rule → Bool) (rules : List StyleRule) (number : ℕ) (found : Option StyleRule) → slice_get rules number ≡ found →
    flat_map applied (filter asked (option_to_list (option_map rule_of found))) ≡ said_at asked (map rule_of rules) number
read asked rules number found e =
    ap (λ rule. flat_map applied (filter asked (option_to_list rule))) (sym (slice_get-map rule_of rules number ∙ ap (option_map rule_of) e))

pub loop-number-preserved : goal.loop-number-preserved
loop-number-preserved c =
    let asked = selects c.args.element.now (option_copied c.args.id) (option_copied c.args.classes) in
    let rules = c.args.rules.now in
    let numbers = c.args.numbers.now in
    let i = c.loop-number.number-index in
    let number = get_or numbers i 0 in
    let old = c.loop-number.style in
    let at = said_at asked (map rule_of rules) in
    let turn : c.match-get.style ≡ with_declarations old (at number) = elim c.match-get.branch [
      | in-Some+then-selects+in_ok-update_all w ↦ (
          let rule = w.in-Some.rule.now in
          let found = w.in-Some.ensures.lookup.3 in
          w.style-is
          ∙ w.in_ok-update_all.ensures
          ∙ ap (with_declarations old) (said_to-selected asked (rule_of rule) (sym w.selects.ensures ∙ w.if-selects.true)
          ∙ read asked rules number (Some rule) (slice_get_read rules (length rules) number rule refl found.0 (found.1 rule)))
          )
      | in-Some+else-selects w ↦ (
          let rule = w.in-Some.rule.now in
          let found = w.in-Some.ensures.lookup.3 in
          w.style-is
          ∙ said_to-other asked (rule_of rule) old (sym w.selects.ensures ∙ w.if-selects.false)
          ∙ ap (with_declarations old) (read asked rules number (Some rule) (slice_get_read rules (length rules) number rule refl found.0 (found.1 rule)))
          )
      | in_default w ↦
          w.style-is ∙ still old ∙ ap (with_declarations old)
          (read asked rules number None (slice_get_past rules number w.in_default.ensures.lookup.3))
    ] in
    turn
    ∙ ap (λ s. with_declarations s (at number)) c.loop-number.invariant
    ∙ with_declarations-more at (style_by []) numbers i number c.loop-number-test.true (get_or_default numbers i 0 number c.loop-number-test.true)
