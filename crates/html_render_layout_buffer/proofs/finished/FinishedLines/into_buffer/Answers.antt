use Rattle.std.proofs.Common.{rules, ◌≡◌, [], ◌++◌, append_assoc, append-nil, sym, ap, ◌∙◌}
use Rattle.html_render_layout_buffer.specs.Pieces.{lines_of}
use Rattle.html_render_layout_buffer.proofs.finished.FinishedLines.into_buffer.Goals as goal

pub loop-piece-preserved : goal.loop-piece-preserved
loop-piece-preserved g c =
    let old = c.loop-piece.lines.lines in
    let rest = lines_of c.pop_first-in-loop-piece.new.self in
    let piece = c.in-Some-pop_first.piece in
    record {
      lines = ap (λ q. q.lines ++ rest) c.in_ok-write_to.ensures ∙ append_assoc old piece rest
          ∙ ap (λ y. old ++ lines_of y) (sym c.in-Some-pop_first.ensures.some) ∙ c.loop-piece.invariant.lines;
      line = ap (λ q. q.line) c.in_ok-write_to.ensures;
    }

pub returns : goal.returns
returns g c =
    let old = c.loop-piece.lines.lines in
    let rest = lines_of c.pop_first.new.self in
    let ls = c.self.inside.last.lines in
    let few : c.loop-piece.pieces ≡ [] = search rules in
    let first = ap (λ q. q.lines ++ rest) (c.reserve.ensures ∙ c.in_ok-lines.ensures) ∙ ap (λ y. lines_of y) (sym c.in-Some.ensures.some) in
    let all : old ≡ lines_of c.self.inside.pieces =
    sym (append-nil old) ∙ ap (λ y. old ++ lines_of y) (sym few) ∙ c.loop-piece.invariant.lines ∙ first in
    c.in_ok-append_all.ensures.ok ∙ ap (λ l. record { lines = old ++ ls; line = l }) c.self.invariant
    ∙ ap (λ y. record { lines = y ++ ls; line = [] }) all ∙ ap (λ y. record { lines = y; line = [] }) c.self.view_is
