use Rattle.std.proofs.Common.{◌+◌, [], ◌∷◌, ◌++◌, map, drop, sym, ap, ◌∙◌}
use Rattle.std.proofs.lemmas.List.{at_drop_more, map-append}
use Rattle.std.specs.Prelude.{string_bytes}
use Rattle.html_render_layout.specs.Ending.{footnotes}
use Rattle.html_render_layout.proofs.Ending.{footnotes-more}
use Rattle.html_render_layout.proofs.walk.ending.footnotes.Goals as goal

pub loop-index-preserved : goal.loop-index-preserved
loop-index-preserved c =
    let i = c.loop-index.index in
    let old = map (λ t. string_bytes t) c.loop-index.texts.items in
    footnotes-more (i + 1) _ old _ _ (drop (i + 1) c.args.targets.now)
    (c.loop-index.invariant
    ∙ at_drop_more (λ xs. old ++ footnotes (i + 1) xs) c.args.targets.now i c.index-targets-index.result c.loop-index-test.true
    ∙ ap (λ t. old ++ footnotes (i + 1) (t ∷ drop (i + 1) c.args.targets.now)) (sym c.index-targets-index.is))
    (ap (map (λ t. string_bytes t)) c.in_ok-push.ensures.items
    ∙ map-append (λ t. string_bytes t) c.loop-index.texts.items (c.in_ok-text.text ∷ [])
    ∙ ap (λ bs. old ++ bs ∷ []) c.in_ok-text.ensures)
