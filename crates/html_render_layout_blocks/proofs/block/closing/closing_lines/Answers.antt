use Rattle.std.proofs.Common.{◌+◌, ◌∷◌, ◌++◌, map, drop, sym, ap, ◌∙◌, option_map}
use Rattle.std.proofs.lemmas.Iterator.Adapters.{option_map_id}
use Rattle.std.proofs.lemmas.List.{at_drop_more}
use Rattle.std.proofs.lemmas.Result.{err_from_is_err_and}
use Rattle.std.specs.Prelude.{string_bytes}
use Rattle.std.specs.Str.{chars}
use Rattle.html_render_layout_blocks.specs.Closing.{closing_lines}
use Rattle.html_render_layout_blocks.proofs.Closing.{closing-step, closing-refused}
use Rattle.html_render_layout_blocks.proofs.block.closing.closing_lines.Goals as goal

pub loop-text-init : goal.loop-text-init
loop-text-init g c = rw c.new-lines.ensures (sym (option_map_id _))

pub loop-text-preserved : goal.loop-text-preserved
loop-text-preserved g c =
    let s = c.args.setting in
    let rest = drop (c.loop-text.text-index + 1) c.args.texts.now in
    c.loop-text.invariant
    ∙ at_drop_more (λ xs. option_map (λ ls. c.loop-text.lines ++ ls)
    (closing_lines s c.args.cut c.args.tag (map (λ t. chars (string_bytes t)) xs)))
    c.args.texts.now c.loop-text.text-index c.text-item.result c.loop-text-test.true
    ∙ ap (λ t. option_map (λ ls. c.loop-text.lines ++ ls)
    (closing_lines s c.args.cut c.args.tag (chars (string_bytes t) ∷ map (λ t. chars (string_bytes t)) rest))) (sym c.text-item.is)
    ∙ ap (λ bs. option_map (λ ls. c.loop-text.lines ++ ls)
    (closing_lines s c.args.cut c.args.tag (chars bs ∷ map (λ t. chars (string_bytes t)) rest))) (sym c.as_str.ensures.value)
    ∙ closing-step s c.args.cut c.args.tag (chars c.as_str.result.now) (map (λ t. chars (string_bytes t)) rest)
    c.loop-text.lines c.push_closing_text.new.lines c.in_ok-push_closing_text.ensures.ok

pub returns-in_err-push_closing_text-clause-err : goal.returns-in_err-push_closing_text-clause-err
returns-in_err-push_closing_text-clause-err g c =
    let p = err_from_is_err_and c.from_residual.result c.from_residual.ensures.1 in
    let s = c.args.setting in
    let rest = drop (c.loop-text.text-index + 1) c.args.texts.now in
    let whole = c.loop-text.invariant
    ∙ at_drop_more (λ xs. option_map (λ ls. c.loop-text.lines ++ ls)
    (closing_lines s c.args.cut c.args.tag (map (λ t. chars (string_bytes t)) xs)))
    c.args.texts.now c.loop-text.text-index c.text-item.result c.loop-text-test.true
    ∙ ap (λ t. option_map (λ ls. c.loop-text.lines ++ ls)
    (closing_lines s c.args.cut c.args.tag (chars (string_bytes t) ∷ map (λ t. chars (string_bytes t)) rest))) (sym c.text-item.is)
    ∙ ap (λ bs. option_map (λ ls. c.loop-text.lines ++ ls)
    (closing_lines s c.args.cut c.args.tag (chars bs ∷ map (λ t. chars (string_bytes t)) rest))) (sym c.as_str.ensures.value) in
    rw (p.1, p.2)
    (closing-refused c.in_err-push_closing_text.field-0.0 s c.args.cut c.args.tag (chars c.as_str.result.now)
    (map (λ t. chars (string_bytes t)) rest) c.loop-text.lines _ whole c.in_err-push_closing_text.ensures.err)
