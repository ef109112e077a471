use Rattle.std.proofs.Common.{rules, ◌≤◌, [], ◌++◌, sym, ap, ◌∙◌}
use Rattle.std.proofs.lemmas.Result.{on_ok_weaker}
use Rattle.html_render_layout_buffer.proofs.PieceLines.{wide_filled}
use Rattle.html_render_layout_buffer.proofs.buffer.LineBuffer.append_filled.Goals as goal

pub returns-then-least_columns-width-clause-ok : goal.returns-then-least_columns-width-clause-ok
returns-then-least_columns-width-clause-ok g c =
    let own = c.args.self.now.lines in
    let ls = c.args.other.now.lines in
    let wide : c.args.width ≤ c.least_columns.result = search rules in
    on_ok_weaker c.append_all.result
    (λ e. e ∙ ap (λ l. record { lines = own ++ ls; line = l }) c.requires.other_open
    ∙ ap (λ y. record { lines = own ++ y; line = [] }) (sym (wide_filled c.args.tag c.args.width c.least_columns.result ls c.least_columns.ensures wide)))
    c.append_all.ensures.ok
