use Rattle.std.proofs.Common.{◌≡◌, ◌∙◌, [], get_or, nat_le, false, sym, arith}
use Rattle.html_render_layout_lines.specs.Line.{columns}
use Rattle.html_render_layout_buffer.proofs.PieceLines.{fails-at, fits-in-room, none-fits}
use Rattle.html_render_layout_buffer.proofs.buffer.LineBuffer.lines_fit_after.Goals as goal

pub returns-in_default : goal.returns-in_default
returns-in_default g c k e =
    rw c.line_count.ensures (none-fits k c.args.from c.args.width c.args.self.now.lines c.requires (c.in_default.ensures.none k e))

pub returns-then-not-is_within : goal.returns-then-not-is_within
returns-then-not-is_within g c k e =
    let no : nat_le (columns (get_or c.args.self.now.lines c.loop-n.n [])) c.in-Some.room ≡ false = sym (c.if-not-is_within.ensures _ c.line_columns.ensures) in
    sym (fits-in-room k _ _ _ (c.in-Some.ensures.some k e)
    ∙ fails-at (λ y. nat_le (columns y) c.in-Some.room) c.args.self.now.lines c.args.from c.loop-n.n [] (omega arith) (omega arith) no)
