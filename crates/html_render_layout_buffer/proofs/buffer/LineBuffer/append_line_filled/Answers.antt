use Rattle.std.proofs.lemmas.Result.{on_ok_weaker}
use Rattle.html_render_layout_buffer.proofs.Growing.{line-filled}
use Rattle.html_render_layout_buffer.proofs.buffer.LineBuffer.append_line_filled.Goals as goal

pub returns-clause-ok : goal.returns-clause-ok
returns-clause-ok g c =
    on_ok_weaker c.end_line.result
    (λ e. line-filled c.args.self.now c.append_line.new.self c.push_spaces.new.self c.end_line.new.self _ c.args.tag c.args.width
    c.columns_missing-missing.result c.in_ok-append_line.ensures.ok c.in_ok-push_spaces.ensures.ok e (c.columns_missing-missing.ensures _ c.line_columns.ensures))
    c.end_line.ensures.ok
