use Rattle.std.proofs.Common.{◌<◌, ◌≤◌, length, sym, ◌∙◌, arith}
use Rattle.html_render_layout_buffer.proofs.BlockWidths.{next-line, no-line-left}
use Rattle.html_render_layout_buffer.proofs.nested.widths.Widths.with_each.Goals as goal

pub loop-n-preserved : goal.loop-n-preserved
loop-n-preserved g c =
    let h : c.loop-n.n < length c.args.lines.now.lines = omega arith in
    rw (c.with_line-all.ensures, c.line_columns.ensures)
    (next-line c.loop-n.all c.args.lines.now.lines c.loop-n.n h ∙ c.loop-n.invariant)

pub returns : goal.returns
returns g c =
    let h : length c.args.lines.now.lines ≤ c.loop-n.n = omega arith in
    sym (no-line-left c.loop-n.all c.args.lines.now.lines c.loop-n.n h) ∙ c.loop-n.invariant
