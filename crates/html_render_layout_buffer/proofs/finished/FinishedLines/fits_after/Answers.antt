use Rattle.std.proofs.Common.{rules, ◌<◌, ◌+◌, ◌&&◌, ◌∙◌, nat_le, length, sym, ap}
use Rattle.std.specs.List.{list_all}
use Rattle.html_render_layout_lines.specs.Line.{columns}
use Rattle.html_render_layout_buffer.specs.Pieces.{lines_of, fits_after}
use Rattle.html_render_layout_buffer.proofs.PieceLines.{fit-parts}
use Rattle.html_render_layout_buffer.proofs.finished.FinishedLines.fits_after.Goals as goal

pub returns-then-fits_after : goal.returns-then-fits_after
returns-then-fits_after g c a b e f =
    let first = lines_of c.self.inside.pieces in
    let last = c.self.inside.last.lines in
    let w = c.args.width in
    let others = list_all (λ l. nat_le (b + columns l) w) last in
    let some : 0 < length first = search rules in
    c.lines_fit_after.ensures b f ∙ sym (ap (λ x. x && others) (sym (c.fits_after-2.ensures a b e f) ∙ c.if-fits_after.true))
    ∙ sym (fit-parts a b w first last some) ∙ ap (λ y. fits_after a b w y) c.self.view_is

pub returns-else-fits_after : goal.returns-else-fits_after
returns-else-fits_after g c a b e f =
    let first = lines_of c.self.inside.pieces in
    let last = c.self.inside.last.lines in
    let w = c.args.width in
    let others = list_all (λ l. nat_le (b + columns l) w) last in
    let some : 0 < length first = search rules in
    c.if-fits_after.false ∙ sym (ap (λ x. x && others) (sym (c.fits_after-2.ensures a b e f) ∙ c.if-fits_after.false))
    ∙ sym (fit-parts a b w first last some) ∙ ap (λ y. fits_after a b w y) c.self.view_is
