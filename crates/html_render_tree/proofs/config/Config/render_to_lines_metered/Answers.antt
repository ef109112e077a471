use Rattle.std.proofs.Common.{◌≡◌, ◌∙◌, ap, subst, Some}
use Rattle.std.specs.Prelude.{◌≢◌, Result, Ok, Err}
use Rattle.std.proofs.lemmas.Result.{IfOk-weaker}
use Rattle.html_render_dom_values.specs.Outcome.{OnlyOutOfMemory}
use Rattle.html_render_dom_values.specs.declared.errors.Error.{Error}
use Rattle.html_render_dom_values.specs.declared.errors.Error.TheVariants.{TooNarrow}
use Rattle.html_render_layout.specs.Layout.{mark_names}
use Rattle.html_render_layout.specs.Promises.{AreLines}
use Rattle.html_render_layout_blocks.specs.declared.block.BlockSetting.{BlockSetting}
use Rattle.html_render_layout_tagged.specs.LaidOut.{laid_out}
use Rattle.html_render_layout_tagged.specs.Grouping.{lines_of}
use Rattle.html_render_layout_tagged.specs.laws.Grouping.{within-lines}
use Rattle.html_render_tree.specs.Rendering.{Options, document_block}
use Rattle.html_render_tree.specs.laws.Rendering.{promises_kept, strings-answered, strings-rendered}
use Rattle.html_render_tree.proofs.config.Config.render_to_lines_metered.Goals as goal

pub returns-clause-within : goal.returns-clause-within
returns-clause-within g c = λ off wrapped.
    let laid = c.in_ok-laid_out.laid_out in
    let options = c.args.self.now in
    let are : AreLines g.D.TextDecorator.decoration options.settings c.args.tree options.decorator (document_block options c.args.width) (laid_out laid) =
    subst (λ (o : Options g.row.D.Denot). AreLines g.D.TextDecorator.decoration o.settings c.args.tree o.decorator
    (document_block options c.args.width) (laid_out laid)) c.self.view_is
    (subst (λ b. AreLines g.D.TextDecorator.decoration c.self.inside.settings c.args.tree c.self.inside.decorator b (laid_out laid))
    c.block.ensures c.in_ok-laid_out.ensures.ok) in
    IfOk-weaker c.tagged_lines.result _ _
    (λ made columns. within-lines c.args.width made.items (laid_out laid) columns (are.within off wrapped)) c.tagged_lines.ensures.columns

pub returns-clause-lines : goal.returns-clause-lines
returns-clause-lines g c =
    let laid = c.in_ok-laid_out.laid_out in
    let options = c.args.self.now in
    let block = document_block options c.args.width in
    IfOk-weaker c.tagged_lines.result _ _ (λ made grouped.
    strings-rendered g.D.TextDecorator.decoration options c.args.tree c.args.width g.D.Annotation.PartialEq.eq (lines_of made.items)
    (laid_out laid) laid.names
    (subst (λ (o : Options g.row.D.Denot).
    AreLines g.D.TextDecorator.decoration o.settings c.args.tree o.decorator block (laid_out laid)) c.self.view_is
    (subst (λ b. AreLines g.D.TextDecorator.decoration c.self.inside.settings c.args.tree c.self.inside.decorator b (laid_out laid))
    c.block.ensures c.in_ok-laid_out.ensures.ok))
    (subst (λ (o : Options g.row.D.Denot). mark_names g.D.TextDecorator.decoration o.settings c.args.tree o.decorator block ≡ Some laid.names)
    c.self.view_is
    (subst (λ b. mark_names g.D.TextDecorator.decoration c.self.inside.settings c.args.tree c.self.inside.decorator b ≡ Some laid.names)
    c.block.ensures c.in_ok-laid_out.ensures.names)) grouped) c.tagged_lines.ensures.ok

pub returns-clause-ok : goal.returns-clause-ok
returns-clause-ok g c =
    IfOk-weaker c.tagged_lines.result _ _ (λ made told.
    strings-answered g.D.TextDecorator.decoration c.args.self.now c.args.tree c.args.width g.D.Annotation.PartialEq.eq (lines_of made.items) told)
    (returns-clause-lines g c)

-- the result is no error but `OutOfMemory`, and width 0 has no lines
pub returns-clause-promises : goal.returns-clause-promises
returns-clause-promises g c =
    promises_kept g.D.TextDecorator.decoration c.args.self.now c.args.tree c.args.width c.tagged_lines.result
    (λ zero. never (c.in_ok-laid_out.ensures.no_width (ap (λ (b : BlockSetting). b.width) c.block.ensures ∙ zero)))
    (λ on some. no_other c.tagged_lines.result c.tagged_lines.ensures.err)
  where
    never : {A R : Type 0} {a : A} {r : Result R Error} → ◌≡◌ {A = Result A Error} (Ok a) (Err TooNarrow) → r ≡ Err TooNarrow
    never e = cc

    no_other : {R : Type 0} (r : Result R Error) → OnlyOutOfMemory r → r ≢ Err TooNarrow
    no_other (Ok v) only e = cc
    no_other (Err x) only e = cc
