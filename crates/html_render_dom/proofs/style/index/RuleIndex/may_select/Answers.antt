use Rattle.std.proofs.Common.{arith, ◌≡◌, ◌||◌, ◌&&◌, not, sym, ◌∙◌}
use Rattle.std.proofs.lemmas.Bool.{OnFalse_from}
use Rattle.std.proofs.lemmas.Grind.{common_steps}
use Rattle.html_render_dom.specs.RuleIndex.{is_told}
use Rattle.html_render_dom_styles.specs.Selectors.{is_filled}
use Rattle.html_render_dom.proofs.RuleIndex.{none_selects}
use Rattle.html_render_dom.proofs.style.index.RuleIndex.may_select.Goals as goal

pub returns-clause-unstyled : goal.returns-clause-unstyled
returns-clause-unstyled c =
    let self = c.args.self.now in
    let told : (c.index.result.now || not c.is_empty.result || self.asks_attributes && not c.is_empty-2.result)
    ≡ (is_told self.keys.items c.args.element.now || is_filled self.general.items || self.asks_attributes && is_filled c.args.attrs.now) =
    grind (arith, common_steps) in
    OnFalse_from _ _ (λ e. none_selects self c.args.element.now c.args.attrs.now (sym told ∙ e))
