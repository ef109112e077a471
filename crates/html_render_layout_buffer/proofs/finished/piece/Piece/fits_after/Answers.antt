use Rattle.std.proofs.Common.{◌+◌, ◌&&◌, nat_le, drop, reverse, sym, ap, ◌∙◌}
use Rattle.std.specs.List.{list_all}
use Rattle.html_render_layout_lines.specs.Line.{columns}
use Rattle.html_render_layout_buffer.specs.Pieces.{fits_after}
use Rattle.html_render_layout_buffer.proofs.PieceLines.{piece-fits}
use Rattle.html_render_layout_buffer.proofs.finished.piece.Piece.fits_after.Goals as goal

pub returns-then-is_within : goal.returns-then-is_within
returns-then-is_within g c a b e f =
    let front = reverse c.self.inside.front.items in
    let ls = c.self.inside.lines.lines in
    let w = c.args.width in
    let others = list_all (λ l. nat_le (b + columns l) w) (drop 1 ls) in
    let sum = c.counted_sum-columns.ensures _ _ (c.counted_sum-before.ensures _ _ e c.self.invariant.counts) c.line_columns.ensures in
    let first = sym (c.is_within.ensures _ sum) ∙ c.if-is_within.true in
    c.lines_fit_after.ensures b f ∙ sym (ap (λ x. x && others) first) ∙ sym (piece-fits front a b w ls c.self.invariant.some)
    ∙ ap (λ y. fits_after a b w y) c.self.view_is

pub returns-else-is_within : goal.returns-else-is_within
returns-else-is_within g c a b e f =
    let front = reverse c.self.inside.front.items in
    let ls = c.self.inside.lines.lines in
    let w = c.args.width in
    let others = list_all (λ l. nat_le (b + columns l) w) (drop 1 ls) in
    let sum = c.counted_sum-columns.ensures _ _ (c.counted_sum-before.ensures _ _ e c.self.invariant.counts) c.line_columns.ensures in
    let first = sym (c.is_within.ensures _ sum) ∙ c.if-is_within.false in
    c.if-is_within.false ∙ sym (ap (λ x. x && others) first) ∙ sym (piece-fits front a b w ls c.self.invariant.some)
    ∙ ap (λ y. fits_after a b w y) c.self.view_is
