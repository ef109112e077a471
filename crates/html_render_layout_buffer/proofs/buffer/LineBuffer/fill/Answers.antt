use Rattle.std.proofs.Common.{rules, ◌≡◌, ◌≤◌, [], sym, ap, ◌∙◌}
use Rattle.html_render_layout_buffer.proofs.PieceLines.{wide_filled}
use Rattle.html_render_layout_buffer.proofs.buffer.LineBuffer.fill.Goals as goal

pub returns-then-least_columns-width-clause-ok : goal.returns-then-least_columns-width-clause-ok
returns-then-least_columns-width-clause-ok g c =
    let ls = c.args.self.now.lines in
    let wide : c.args.width ≤ c.least_columns.result = search rules in
    let whole : c.args.self.now ≡ record { lines = ls; line = [] } = ap (λ l. record { lines = ls; line = l }) c.requires in
    whole ∙ ap (λ y. record { lines = y; line = [] }) (sym (wide_filled c.args.tag c.args.width c.least_columns.result ls c.least_columns.ensures wide))
