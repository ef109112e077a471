use Rattle.std.proofs.Common.{◌≡◌, ◌+◌, ◌*◌, ◌++◌, ◌∙◌, sym, ap, subst, length, drop, OnOk}
use Rattle.std.specs.Prelude.{replicate}
use Rattle.std.proofs.lemmas.List.{length-drop}
use Rattle.html_render_layout_buffer.specs.declared.slot.Slot.TheVariants as slot
use Rattle.html_render_layout_buffer.specs.Fields.{lines_slots}
use Rattle.html_render_layout_buffer.proofs.Stored.{opened}
use Rattle.html_render_layout_buffer.proofs.BehindLines.{all-one, behind, count-behind}
use Rattle.html_render_layout_buffer.proofs.buffer.behind.put_slots.Goals as goal

pub returns-then-has_one_tag : goal.returns-then-has_one_tag
returns-then-has_one_tag g c =
    let tag = c.args.prefix.now.tag in
    let text = c.args.prefix.now.text.now in
    let ls = c.args.lines.now.lines in
    let stored = opened _ _ c.lines.invariant c.lines.view_is in
    let all = all-one _ _ _ tag text c.args.from stored c.requires.utf8 c.if-has_one_tag.ensures in
    let count : c.in_ok-count_behind.field-0 ≡ length (lines_slots (behind tag text (drop c.args.from ls))) =
    c.in_ok-count_behind.ensures
    ∙ ap (λ n. n * length text + length (lines_slots (drop c.args.from ls))) (sym (length-drop c.args.from ls))
    ∙ sym (count-behind tag text (drop c.args.from ls) c.requires.utf8) in
    subst (λ ss. OnOk c.push.result (c.push.new.self ≡ c.args.slots.now ++ ss)) (ap (λ n. replicate n (slot.Byte tag)) count ∙ sym all) c.push.ensures.ok
