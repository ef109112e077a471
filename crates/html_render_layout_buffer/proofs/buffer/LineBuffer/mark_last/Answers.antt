use Rattle.std.proofs.lemmas.Result.{on_ok_weaker}
use Rattle.html_render_layout_buffer.proofs.Growing.{last-marked}
use Rattle.html_render_layout_buffer.proofs.buffer.LineBuffer.mark_last.Goals as goal

pub returns-clause-ok : goal.returns-clause-ok
returns-clause-ok g c =
    on_ok_weaker c.end_line.result
    (λ e. last-marked c.args.self.now c.reopen.new.self c.push_marks.new.self c.end_line.new.self c.args.marks.now c.reopen.ensures
    c.in_ok-push_marks.ensures.ok e) c.end_line.ensures.ok
