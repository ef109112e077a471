use Rattle.std.proofs.Common.{◌++◌, ◌∷◌, [], ◌≤◌, append_assoc, sym, ap, ◌∙◌, arith}
use Rattle.html_render_layout_pictures.specs.declared.borders.TheConstants.{BORDERS}
use Rattle.html_render_layout_lines.specs.declared.line.Element.TheVariants.{Character}
use Rattle.html_render_layout_lines.specs.Line.{Line}
use Rattle.html_render_layout_buffer.specs.Lines.{BufferedLines}
use Rattle.html_render_layout_buffer.specs.Padding.{repeated}
use Rattle.html_render_layout_pictures.specs.Picture.{joint}
use Rattle.html_render_layout_pictures.specs.Separators.{blank_before}
use Rattle.html_render_layout_pictures.proofs.Separators.{dashes-drawn, piece-drawn}
use Rattle.html_render_layout_pictures.proofs.picture.Frame.draw_piece.Goals as goal

pub returns-then-dashes-most-clause-drawn : goal.returns-then-dashes-most-clause-drawn
returns-then-dashes-most-clause-drawn g c =
    let above = c.args.above.now in
    let below = c.args.below.now in
    let tag = c.args.self.now.tag in
    let ha : c.args.most ≤ blank_before above.blank above.others.now = omega arith in
    let hb : c.args.most ≤ blank_before below.blank below.others.now = omega arith in
    ap (λ (b : BufferedLines g.row.T.Denot g.row.M.Denot). b.line) c.in_ok-push_fillers.ensures
    ∙ ap (λ n. c.args.to.now.line ++ repeated tag BORDERS.line n) c.if-dashes-most.true
    ∙ ap (λ l. c.args.to.now.line ++ l)
    (sym (dashes-drawn g.row.M.Denot c.args.self.now above.blank above.others.now below.blank below.others.now c.args.most ha hb))

pub returns-clause-drawn : goal.returns-clause-drawn
returns-clause-drawn g c =
    let above = c.args.above.now in
    let below = c.args.below.now in
    let tag = c.args.self.now.tag in
    let n = c.min-dashes.result in
    let ha : n ≤ blank_before above.blank above.others.now = omega arith in
    let hb : n ≤ blank_before below.blank below.others.now = omega arith in
    let sign : Line g.row.T.Denot g.row.M.Denot = Character (joint c.pass-up.result c.pass-down.result) tag ∷ [] in
    ap (λ (b : BufferedLines g.row.T.Denot g.row.M.Denot). b.line) c.in_ok-draw_joint.ensures
    ∙ append_assoc c.args.to.now.line (repeated tag BORDERS.line n) sign
    ∙ ap (λ l. c.args.to.now.line ++ l)
    (sym (piece-drawn g.row.M.Denot c.args.self.now above.blank above.others.now below.blank below.others.now n c.pass-up.result c.pass-down.result
    ha hb c.pass-up.ensures.here c.pass-down.ensures.here))
