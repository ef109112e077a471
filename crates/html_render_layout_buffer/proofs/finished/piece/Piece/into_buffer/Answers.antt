use Rattle.std.proofs.Common.{rules, ◌≡◌, [], length, sym, ap, ◌∙◌}
use Rattle.html_render_layout_buffer.proofs.PieceLines.{front-none}
use Rattle.html_render_layout_buffer.proofs.finished.piece.Piece.into_buffer.Goals as goal

pub returns-then-is_empty : goal.returns-then-is_empty
returns-then-is_empty g c =
    let ls = c.self.inside.lines.lines in
    let few : length c.self.inside.front.items ≡ 0 = search rules in
    ap (λ l. record { lines = ls; line = l }) c.self.invariant.closed
    ∙ ap (λ y. record { lines = y; line = [] }) (sym (front-none c.self.inside.front.items ls few) ∙ c.self.view_is)
