use Rattle.std.proofs.Common.{◌≡◌, subst, ap, ◌∙◌}
use Rattle.std.proofs.lemmas.Result.{err_from_is_err_and}
use Rattle.std.specs.Prelude.{Err}
use Rattle.html_render_dom_values.specs.declared.errors.Error.TheVariants.{TooNarrow}
use Rattle.html_render_layout_blocks.specs.declared.block.BlockSetting.{BlockSetting}
use Rattle.html_render_layout.specs.Layout.{unannotated}
use Rattle.html_render_layout.specs.Promises.{Lines}
use Rattle.html_render_tree.specs.Rendering.{Options, document_block}
use Rattle.html_render_tree.specs.laws.Rendering.{promises_kept, text-answered, text-rendered}
use Rattle.html_render_tree.proofs.config.Config.render_to_string.Goals as goal

pub returns-clause-lines : goal.returns-clause-lines
returns-clause-lines g c =
    let bare = c.in_ok-lines.lines in
    let block = document_block c.args.self.now c.args.width in
    text-rendered g.D.TextDecorator.decoration c.args.self.now c.args.tree c.args.width bare _
    (subst (λ (o : Options g.row.D.Denot). Lines g.D.TextDecorator.decoration o.settings c.args.tree o.decorator block (λ lines. bare ≡ unannotated lines))
    c.self.view_is
    (subst (λ b. Lines g.D.TextDecorator.decoration c.self.inside.settings c.args.tree c.self.inside.decorator b (λ lines. bare ≡ unannotated lines))
    c.block.ensures c.in_ok-lines.ensures.ok)) c.in_ok-string_of.ensures

pub returns-clause-ok : goal.returns-clause-ok
returns-clause-ok g c = text-answered g.D.TextDecorator.decoration c.args.self.now c.args.tree c.args.width _ (returns-clause-lines g c)

pub returns-clause-promises : goal.returns-clause-promises
returns-clause-promises g c =
    let width : c.args.width ≡ 0 → c.lay_out_untagged.result ≡ Err TooNarrow =
    λ e. c.lay_out_untagged.ensures.no_width (ap (λ (b : BlockSetting). b.width) c.block.ensures ∙ e) in
    promises_kept g.D.TextDecorator.decoration c.args.self.now c.args.tree c.args.width _ (λ e. cc (width e, c.in_ok-lines.was)) (λ o w e. cc e)

pub returns-in_err-string_of-clause-promises : goal.returns-in_err-string_of-clause-promises
returns-in_err-string_of-clause-promises g c =
    let p = err_from_is_err_and c.from_residual-in_err-string_of.result c.from_residual-in_err-string_of.ensures.1 in
    let width : c.args.width ≡ 0 → c.lay_out_untagged.result ≡ Err TooNarrow =
    λ e. c.lay_out_untagged.ensures.no_width (ap (λ (b : BlockSetting). b.width) c.block.ensures ∙ e) in
    promises_kept g.D.TextDecorator.decoration c.args.self.now c.args.tree c.args.width _ (λ e. cc (width e, c.in_ok-lines.was))
    (λ o w e. cc (p.1, p.2, e))
