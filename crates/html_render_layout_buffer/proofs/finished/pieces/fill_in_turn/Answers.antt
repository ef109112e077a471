use Rattle.std.proofs.Common.{◌++◌, ◌∷◌, [], Some, ap, sym, ◌∙◌, arith}
use Rattle.html_render_layout_buffer.specs.Padding.{filled}
use Rattle.html_render_layout_buffer.proofs.PieceLines.{one-turn}
use Rattle.html_render_layout_buffer.proofs.finished.pieces.fill_in_turn.Goals as goal

pub loop-preserved : goal.loop-preserved
loop-preserved g c =
    let fill = filled {M = g.row.M.Denot} (Some c.args.tag) c.args.width in
    c.in_ok-push_back.ensures.items ∙ ap (λ y. c.pop_front.new.self.items ++ y ∷ []) c.in_ok-filled.ensures
    ∙ one-turn fill c.args.pieces.now.items c.pop_front.new.self.items c.loop.counter c.in-Some.piece (omega arith)
    (sym c.loop.invariant ∙ c.in-Some.ensures.items)
