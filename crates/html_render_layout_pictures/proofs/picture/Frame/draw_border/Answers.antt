use Rattle.std.proofs.Common.{◌++◌, map, append_assoc, ap, ◌∙◌, arith}
use Rattle.std.specs.List.{range_with_len}
use Rattle.html_render_layout_lines.specs.Line.{Line}
use Rattle.html_render_layout_pictures.specs.Separators.{separators_from, joint_at}
use Rattle.html_render_layout_pictures.proofs.Separators.{piece-behind, places-behind}
use Rattle.html_render_layout_pictures.proofs.picture.Frame.draw_border.Goals as goal

pub loop-drawn-preserved : goal.loop-drawn-preserved
loop-drawn-preserved g c =
    let above = separators_from c.args.above.now.blank c.args.above.now.others.now in
    let below = separators_from c.args.below.now.blank c.args.below.now.others.now in
    let up = separators_from c.loop-drawn.above.blank c.loop-drawn.above.others.now in
    let down = separators_from c.loop-drawn.below.blank c.loop-drawn.below.others.now in
    let at = c.loop-drawn.drawn in
    let n = c.in_ok-piece.piece in
    let before : Line g.row.T.Denot g.row.M.Denot = map (joint_at g.row.M.Denot c.args.self.now above below) (range_with_len 0 at) in
    let piece : Line g.row.T.Denot g.row.M.Denot = map (joint_at g.row.M.Denot c.args.self.now up down) (range_with_len 0 n) in
    let ea = c.loop-drawn.invariant.above c.loop-drawn-test.true in
    let eb = c.loop-drawn.invariant.below c.loop-drawn-test.true in
    record {
      lines = c.in_ok-piece.ensures.lines ∙ c.loop-drawn.invariant.lines;
      line = c.in_ok-piece.ensures.drawn
          ∙ ap (λ l. l ++ piece) c.loop-drawn.invariant.line
          ∙ append_assoc c.args.to.now.line before piece
          ∙ ap (λ l. c.args.to.now.line ++ l) (piece-behind g.row.M.Denot c.args.self.now above below up down at n ea eb);
      within = omega (arith, c.in_ok-piece.ensures.within, c.loop-drawn-test.true);
      above = λ h. places-behind above up _ at n ea (c.in_ok-piece.ensures.above (omega (arith, h)));
      below = λ h. places-behind below down _ at n eb (c.in_ok-piece.ensures.below (omega (arith, h)));
    }
