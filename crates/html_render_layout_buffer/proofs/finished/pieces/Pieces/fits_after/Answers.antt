use Rattle.std.proofs.Common.{rules, ◌≡◌, ◌<◌, ◌+◌, ◌&&◌, ◌∙◌, nat_le, drop, length, get_or, sym, ap}
use Rattle.std.specs.List.{list_all}
use Rattle.html_render_layout_lines.specs.Line.{columns}
use Rattle.html_render_layout_buffer.specs.Pieces.{lines_of, fits_after}
use Rattle.html_render_layout_buffer.proofs.PieceLines.{first-fits}
use Rattle.html_render_layout_buffer.proofs.finished.pieces.Pieces.fits_after.Goals as goal

pub returns-then-fits_after : goal.returns-then-fits_after
returns-then-fits_after g c a b e f =
    let items = c.self.inside.pieces.items in
    let w = c.args.width in
    let piece = c.index-piece.result.now in
    let others = list_all (λ l. nat_le (b + columns l) w) (lines_of (drop 1 items)) in
    let some : 0 < length items = search rules in
    let at : piece ≡ get_or items 0 piece = search rules in
    c.others_fit.ensures b f ∙ sym (ap (λ x. x && others) (sym (c.fits_after.ensures a b e f) ∙ c.if-fits_after.true))
    ∙ sym (first-fits a b w items piece some at c.has_line.ensures) ∙ ap (λ y. fits_after a b w (lines_of y)) c.self.view_is

pub returns-else-fits_after : goal.returns-else-fits_after
returns-else-fits_after g c a b e f =
    let items = c.self.inside.pieces.items in
    let w = c.args.width in
    let piece = c.index-piece.result.now in
    let others = list_all (λ l. nat_le (b + columns l) w) (lines_of (drop 1 items)) in
    let some : 0 < length items = search rules in
    let at : piece ≡ get_or items 0 piece = search rules in
    c.if-fits_after.false ∙ sym (ap (λ x. x && others) (sym (c.fits_after.ensures a b e f) ∙ c.if-fits_after.false))
    ∙ sym (first-fits a b w items piece some at c.has_line.ensures) ∙ ap (λ y. fits_after a b w (lines_of y)) c.self.view_is
