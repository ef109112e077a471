use Rattle.std.proofs.Common.{rules, ◌≡◌, [], ◌++◌, length, append-nil, sym, ap, ◌∙◌, arith}
use Rattle.std.specs.Str.{chars}
use Rattle.html_render_layout_lines.specs.TaggedText.{under}
use Rattle.html_render_layout_buffer.specs.Pieces.{lines_of}
use Rattle.html_render_layout_buffer.specs.Prefixed.{prefixed}
use Rattle.html_render_layout_buffer.proofs.PieceLines.{moved-next}
use Rattle.html_render_layout_buffer.proofs.finished.FinishedLines.push_each_behind.Goals as goal

pub loop-piece-preserved : goal.loop-piece-preserved
loop-piece-preserved g c =
    let l = under {M = g.row.M.Denot} c.args.prefix.now.tag (chars c.args.prefix.now.text.now) in
    moved-next l c.loop-piece.self c.push_behind.new.self c.in-Some.piece _ c.loop-piece.pieces c.pop_first.new.self c.has_line.ensures
    c.in_ok-push_behind.ensures c.in-Some.ensures.some c.loop-piece.invariant

pub loop-piece-smaller : goal.loop-piece-smaller
loop-piece-smaller g c = omega (arith, ap length c.in-Some.ensures.some)

pub returns : goal.returns
returns g c =
    let l = under {M = g.row.M.Denot} c.args.prefix.now.tag (chars c.args.prefix.now.text.now) in
    let few : c.loop-piece.pieces ≡ [] = search rules in
    sym (append-nil c.loop-piece.self) ∙ ap (λ y. c.loop-piece.self ++ prefixed l l (lines_of y)) (sym few) ∙ c.loop-piece.invariant
