use Rattle.std.proofs.Common.{◌++◌, ◌∷◌, [], drop, take, length, ap, map, sym, ◌∙◌, arith}
use Rattle.std.proofs.lemmas.List.{length-append, length-drop}
use Rattle.std.specs.Str.{chars}
use Rattle.html_render_layout_lines.specs.TaggedText.{under}
use Rattle.html_render_layout_buffer.proofs.PieceLines.{one-turn}
use Rattle.html_render_layout_buffer.proofs.finished.pieces.Pieces.put_behind.Goals as goal

pub loop-preserved : goal.loop-preserved
loop-preserved g c =
    let f = map (λ k. under {M = g.row.M.Denot} c.args.prefix.now.tag (chars c.args.prefix.now.text.now) ++ k) in
    c.in_ok-push.ensures ∙ ap (λ y. c.pop_first.new.self ++ y ∷ []) c.in_ok-behind.ensures
    ∙ one-turn f c.args.self.now c.pop_first.new.self c.loop.counter c.in-Some.piece (omega (arith, ap length c.self.view_is))
    (sym c.loop.invariant ∙ c.in-Some.ensures.some)

pub returns-in_default : goal.returns-in_default
returns-in_default g c =
    let f = map (λ k. under {M = g.row.M.Denot} c.args.prefix.now.tag (chars c.args.prefix.now.text.now) ++ k) in
    absurd (omega (
      arith,
      ap length (sym c.loop.invariant ∙ c.in_default.ensures.none),
      length-append (drop c.loop.counter c.args.self.now)
          (map f (take c.loop.counter c.args.self.now)),
      length-drop c.loop.counter c.args.self.now,
      ap length c.self.view_is,
    ))
