use Rattle.std.proofs.Common.{◌≡◌, List, length, refl, ap, ◌∙◌, arith}
use Rattle.std.specs.Str.{chars}
use Rattle.html_render_dom_values.specs.laws.Outcome.{Gives-same}
use Rattle.html_render_layout_lines.specs.TaggedText.{under}
use Rattle.html_render_layout_lines.specs.Line.{Line}
use Rattle.html_render_layout_buffer.specs.Marked.{marked_behind}
use Rattle.html_render_layout_pictures.specs.laws.Heights.{marked_behind-length}
use Rattle.html_render_layout_blocks.proofs.Appending.{moved_put, some_lines}
use Rattle.html_render_layout_blocks.proofs.block.Block.append_lines.Goals as goal

pub returns : goal.returns
returns g c =
    let h = some_lines c.args.lines.now _ c.is_empty.ensures c.if-is_empty.false in
    Gives-same c.move_lines.result _ _ c.move_lines.new.self
    (moved_put c.args.self.now c.take_waiting-waiting.new.self (under c.args.later.now.tag (chars c.args.first.now)) (under c.args.later.now.tag (chars c.args.later.now.text.now))
    _ _ c.args.lines.now c.mark_last.new.self c.args.end.now c.as_slice.result.now h c.in_ok-mark_last.ensures
    (c.as_slice.ensures.value ∙ c.take_waiting-waiting.ensures.marks) c.take_waiting-waiting.ensures.after (cc (c.new.ensures.text, c.new.ensures.tag))
    refl)
    c.move_lines.ensures

pub move_lines-requires : goal.move_lines-requires
move_lines-requires g c =
    let h = some_lines c.args.lines.now _ c.is_empty.ensures c.if-is_empty.false in
    let count : length c.mark_last.new.self ≡ length (marked_behind c.args.end.now c.args.lines.now) =
    ap (λ (ls : List (Line g.row.T.Denot g.row.M.Denot)). length ls) c.in_ok-mark_last.ensures in
    omega (arith, h, count, marked_behind-length c.args.end.now c.args.lines.now)
