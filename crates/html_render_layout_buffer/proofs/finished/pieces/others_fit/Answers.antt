use Rattle.std.proofs.Common.{rules, ◌≡◌, ◌+◌, ◌∙◌, nat_le, true, false, get_or, sym, arith}
use Rattle.html_render_layout_lines.specs.Line.{columns}
use Rattle.html_render_layout_buffer.proofs.PieceLines.{all-fit, pieces-more, pieces-fail}
use Rattle.html_render_layout_buffer.proofs.finished.pieces.others_fit.Goals as goal

pub returns-then-not-fits_after : goal.returns-then-not-fits_after
returns-then-not-fits_after g c k e =
    let piece = c.index.result.now in
    let at : piece ≡ get_or c.args.pieces.now.items c.loop-index.index piece = search rules in
    let no : c.fits_after.result ≡ false = search rules in
    sym (pieces-fail (λ y. nat_le (k + columns y) c.args.width) c.args.pieces.now.items piece c.loop-index.index (omega arith) (omega arith) at
    (sym (all-fit k c.args.width piece) ∙ sym (c.fits_after.ensures k k e e) ∙ no))

pub loop-index-preserved : goal.loop-index-preserved
loop-index-preserved g c k e =
    let piece = c.index.result.now in
    let at : piece ≡ get_or c.args.pieces.now.items c.loop-index.index piece = search rules in
    let yes : c.fits_after.result ≡ true = search rules in
    pieces-more (λ y. nat_le (k + columns y) c.args.width) c.args.pieces.now.items piece c.loop-index.index (omega arith) (omega arith) at
    (c.loop-index.invariant k e) (sym (all-fit k c.args.width piece) ∙ sym (c.fits_after.ensures k k e e) ∙ yes)
