use Rattle.std.proofs.Common.{◌≡◌, Some, IfOk, IfErr, subst, sym, arith, to_z-of_z}
use Rattle.std.specs.String.{string_bytes}
use Rattle.html_render_dom_values.specs.Outcome.{Refuses}
use Rattle.html_render_layout.specs.Layout.{Indented, padded}
use Rattle.html_render_layout.specs.Opening.{number_from, block_entered, child_block}
use Rattle.html_render_layout.specs.Working.{by_tags}
use Rattle.html_render_layout.proofs.items.begin_item.Goals as goal

pub returns-in_ok-prefix-in-Numbers-clause-ok : goal.returns-in_ok-prefix-in-Numbers-clause-ok
returns-in_ok-prefix-in-Numbers-clause-ok g c =
    let d = g.D.TextDecorator.decoration in
    let m = by_tags d g.G.Tagging.annotated in
    let s = c.args.state.now in
    let prefix : string_bytes c.in_ok-prefix-in-Numbers.prefix ≡ d.ordered_item_prefix s.decorator (number_from c.in-Numbers.first c.args.number) = grind (arith, to_z-of_z) in
    subst (λ k. IfOk c.begin_padded.result (λ i. block_entered m (child_block m s.decorator k c.args.number) s ≡ Some (c.begin_padded.new.state, i)))
    (sym c.in-Numbers.is)
    (subst (λ p. IfOk c.begin_padded.result (λ i. block_entered m (Indented (padded c.in-Numbers.columns p) c.in-Numbers.columns c.in-Numbers.min_width) s
    ≡ Some (c.begin_padded.new.state, i))) prefix c.begin_padded.ensures.ok)

pub returns-in_ok-prefix-in-Numbers-clause-err : goal.returns-in_ok-prefix-in-Numbers-clause-err
returns-in_ok-prefix-in-Numbers-clause-err g c =
    let d = g.D.TextDecorator.decoration in
    let m = by_tags d g.G.Tagging.annotated in
    let s = c.args.state.now in
    let prefix : string_bytes c.in_ok-prefix-in-Numbers.prefix ≡ d.ordered_item_prefix s.decorator (number_from c.in-Numbers.first c.args.number) = grind (arith, to_z-of_z) in
    subst (λ k. IfErr c.begin_padded.result (λ e. Refuses e (block_entered m (child_block m s.decorator k c.args.number) s)))
    (sym c.in-Numbers.is)
    (subst (λ p. IfErr c.begin_padded.result (λ e. Refuses e (block_entered m (Indented (padded c.in-Numbers.columns p) c.in-Numbers.columns c.in-Numbers.min_width) s)))
    prefix c.begin_padded.ensures.err)
