-- Each iteration of the loop applies the next declaration.
use Rattle.std.proofs.Common.{ap, ◌∙◌, arith}
use Rattle.std.specs.List.{flat_map}
use Rattle.std.proofs.lemmas.List.{take_all}
use Rattle.html_render_dom.specs.Applying.{with_declarations}
use Rattle.html_render_dom.proofs.Applies.{said_by, said_by-all, still, with_declarations-more}
use Rattle.html_render_dom.proofs.style.computed.ComputedStyle.update_all.Goals as goal

pub loop-declaration-init : goal.loop-declaration-init
loop-declaration-init c = still c.args.self.now

pub loop-declaration-preserved : goal.loop-declaration-preserved
loop-declaration-preserved c =
    let rule = c.args.rule.now in
    let said = said_by rule.origin c.specificity.result rule.pseudo in
    let items = c.deref-declaration-items.result.now in
    c.in_ok-update.ensures
    ∙ ap (λ s. with_declarations s (said c.declaration-item.result)) c.loop-declaration.invariant
    ∙ with_declarations-more said c.args.self.now items c.loop-declaration.declaration-index c.declaration-item.result
    (omega arith) c.declaration-item.is

pub returns : goal.returns
returns c =
    let rule = c.args.rule.now in
    let said = said_by rule.origin c.specificity.result rule.pseudo in
    let items = c.deref-declaration-items.result.now in
    c.loop-declaration.invariant
    ∙ ap (λ ds. with_declarations c.args.self.now (flat_map said ds))
    (take_all c.loop-declaration.declaration-index items (omega arith) ∙ c.deref-declaration-items.ensures.value)
    ∙ ap (λ n. with_declarations c.args.self.now
    (flat_map (said_by rule.origin n rule.pseudo) rule.declarations.items)) c.specificity.ensures
    ∙ ap (with_declarations c.args.self.now) (said_by-all rule)
