-- A setting that is made joins those that are done; one that isn't is the first faulty one.
use Rattle.std.proofs.Common.{◌∷◌, [], ◌++◌, List, append_assoc, ap, sym, ◌∙◌}
use Rattle.html_render_tree_records.proofs.Made.{configured-after, faulty-after}
use Rattle.html_render_tree_records.specs.declared.settings.Setting.{Setting}
use Rattle.html_render_tree_records.proofs.rendering.with_settings.Goals as goal

pub returns-in-None-clause-err : goal.returns-in-None-clause-err
returns-in-None-clause-err g c =
    let i = c.loop-setting.invariant in
    faulty-after c.args.text.now c.args.settings.now i.0 c.loop-setting.rest.now c.in-Some.behind.now c.args.config c.loop-setting.config c.in-Some.setting.now
    i.1 c.in-Some.ensures.cases.0 i.2 (sym c.in_ok-made.ensures.ok ∙ c.in-None.is)

pub loop-setting-preserved : goal.loop-setting-preserved
loop-setting-preserved g c =
    let i = c.loop-setting.invariant in
    let all = i.1 ∙ ap (λ (xs : List Setting). i.0 ++ xs) c.in-Some.ensures.cases.0 ∙ sym (append_assoc i.0 (c.in-Some.setting.now ∷ []) c.in-Some.behind.now) in (
      i.0 ++ c.in-Some.setting.now ∷ [],
      all,
      configured-after c.args.text.now i.0 c.args.config c.loop-setting.config c.in-Some-2.made c.in-Some.setting.now i.2 (sym c.in_ok-made.ensures.ok ∙ c.in-Some-2.is),
    )
