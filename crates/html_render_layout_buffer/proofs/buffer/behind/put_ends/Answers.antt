use Rattle.std.proofs.Common.{◌≡◌, ◌+◌, ◌-◌, ◌∷◌, [], ◌++◌, ◌∙◌, ap, get_or, take, length, length-append, arith}
use Rattle.std.proofs.lemmas.List.{length-drop, length-take-le}
use Rattle.html_render_layout_lines.specs.Line.{text_bytes}
use Rattle.html_render_layout_buffer.specs.Fields.{line_slots}
use Rattle.html_render_layout_buffer.proofs.BehindLines.{ends-more, more-behind}
use Rattle.html_render_layout_buffer.proofs.buffer.behind.put_ends.Goals as goal

pub overflow_add-end-in-loop-n : goal.overflow_add-end-in-loop-n
overflow_add-end-in-loop-n g c =
    let l = get_or c.args.lines.now.lines c.loop-n.n [] in
    let more = more-behind c.args.prefix.now.tag c.args.prefix.now.text.now c.args.lines.now.lines c.args.from c.loop-n.n c.requires.utf8 (omega arith) (omega arith) in
    omega (
      arith,
      ap length c.stored_line-line.ensures.ended,
      length-append (text_bytes l) (10 ∷ []),
      c.loop-n.invariant.text,
      more.bytes,
      more.all_bytes,
      c.requires.text_fits,
    )

pub overflow_add-slot_end : goal.overflow_add-slot_end
overflow_add-slot_end g c =
    let line = c.stored_line-line.result in
    let is = c.stored_line-line.ensures in
    let more = more-behind c.args.prefix.now.tag c.args.prefix.now.text.now c.args.lines.now.lines c.args.from c.loop-n.n c.requires.utf8 (omega arith) (omega arith) in
    omega (
      arith,
      length-drop line.from (take line.to line.slots.now),
      length-take-le line.to line.slots.now is.within,
      ap length is.slots,
      c.loop-n.invariant.slots,
      more.slots,
      more.all_slots,
      c.requires.slots_fit,
    )

pub overflow_add-slot_end-in-loop-n : goal.overflow_add-slot_end-in-loop-n
overflow_add-slot_end-in-loop-n g c =
    let line = c.stored_line-line.result in
    let is = c.stored_line-line.ensures in
    let more = more-behind c.args.prefix.now.tag c.args.prefix.now.text.now c.args.lines.now.lines c.args.from c.loop-n.n c.requires.utf8 (omega arith) (omega arith) in
    omega (
      arith,
      length-drop line.from (take line.to line.slots.now),
      length-take-le line.to line.slots.now is.within,
      ap length is.slots,
      c.loop-n.invariant.slots,
      more.slots,
      more.all_slots,
      c.requires.slots_fit,
    )

pub loop-n-preserved : goal.loop-n-preserved
loop-n-preserved g c =
    let line = c.stored_line-line.result in
    let is = c.stored_line-line.ensures in
    let l = get_or c.args.lines.now.lines c.loop-n.n [] in
    let ended : length line.ended.now ≡ length (text_bytes l) + 1 = ap length is.ended ∙ length-append (text_bytes l) (10 ∷ []) in
    let count : line.to - line.from ≡ length (line_slots l) =
    omega (arith, length-drop line.from (take line.to line.slots.now), length-take-le line.to line.slots.now is.within, ap length is.slots) in
    ends-more c.args.prefix.now.tag c.args.prefix.now.text.now _ _ _ _ _ c.loop-n.end c.loop-n.slot_end _ _ _ c.args.lines.now.lines c.args.from c.loop-n.n
    c.requires.utf8 (omega arith) (omega arith) c.loop-n.invariant (ap (λ n. c.loop-n.end + (length c.args.prefix.now.text.now + n)) ended)
    (ap (λ n. c.loop-n.slot_end + (length c.args.prefix.now.text.now + n)) count)
    (c.counted_sum-columns.ensures _ _ c.args.prefix.now.columns_of_text is.columns)
    (c.in_ok-push.ensures.items ∙ ap (λ e. c.loop-n.ends.items ++ e ∷ []) c.new.ensures)
