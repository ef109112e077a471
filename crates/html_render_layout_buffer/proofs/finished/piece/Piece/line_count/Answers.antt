use Rattle.std.proofs.Common.{length, reverse, sym, ap, ◌∙◌}
use Rattle.html_render_layout_buffer.proofs.PieceLines.{front-length}
use Rattle.html_render_layout_buffer.proofs.finished.piece.Piece.line_count.Goals as goal

pub returns-clause-count : goal.returns-clause-count
returns-clause-count g c = c.line_count.ensures ∙ sym (front-length (reverse c.self.inside.front.items) c.self.inside.lines.lines) ∙ ap length c.self.view_is
