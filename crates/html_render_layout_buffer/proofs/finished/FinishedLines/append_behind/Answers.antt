use Rattle.std.proofs.Common.{rules, ◌≡◌, [], ◌++◌, append_assoc, sym, ap, ◌∙◌}
use Rattle.std.specs.Str.{chars}
use Rattle.std.proofs.lemmas.Result.{on_ok_weaker}
use Rattle.html_render_layout_lines.specs.TaggedText.{under}
use Rattle.html_render_layout_lines.specs.Line.{marks_line}
use Rattle.html_render_layout_buffer.specs.Pieces.{lines_of}
use Rattle.html_render_layout_buffer.specs.Prefixed.{prefixed}
use Rattle.html_render_layout_buffer.proofs.PieceLines.{moved-behind}
use Rattle.html_render_layout_buffer.proofs.finished.FinishedLines.append_behind.Goals as goal

pub returns-in_default : goal.returns-in_default
returns-in_default g c =
    let first = marks_line {T = g.row.T.Denot} c.args.marks.now ++ under {M = g.row.M.Denot} c.args.first.now.tag (chars c.args.first.now.text.now) in
    let later = under {M = g.row.M.Denot} c.args.later.now.tag (chars c.args.later.now.text.now) in
    let ls = c.other.inside.last.lines in
    let none : c.other.inside.pieces ≡ [] = search rules in
    let others : c.args.other.now ≡ ls = sym c.in_ok-separate.ensures ∙ sym c.other.view_is ∙ ap (λ y. lines_of y ++ ls) none in
    on_ok_weaker c.push_lines_behind.result (λ e. e ∙ ap (λ y. c.args.self.now ++ prefixed first later y) (sym others)) c.push_lines_behind.ensures

pub returns : goal.returns
returns g c =
    let first = marks_line {T = g.row.T.Denot} c.args.marks.now ++ under {M = g.row.M.Denot} c.args.first.now.tag (chars c.args.first.now.text.now) in
    let later = under {M = g.row.M.Denot} c.args.later.now.tag (chars c.args.later.now.text.now) in
    let piece = c.in-Some.piece in
    let rest = lines_of c.pop_first.new.self in
    let ls = c.other.inside.last.lines in
    let others = lines_of c.take.result in
    let whole : c.args.other.now ≡ piece ++ others =
    sym c.in_ok-separate.ensures ∙ sym c.other.view_is ∙ ap (λ y. lines_of y ++ ls) c.in-Some.ensures.some
    ∙ append_assoc piece rest ls ∙ ap (λ y. piece ++ y) (sym (ap (λ y. lines_of y) c.take.ensures.taken ∙ c.in_ok-settle.ensures.pieces)) in
    on_ok_weaker c.push_all_behind.result
    (λ e. moved-behind first later c.args.self.now c.push_behind.new.self c.push_all_behind.new.self piece others c.args.other.now
    c.has_line.ensures whole c.in_ok-push_behind.ensures e) c.push_all_behind.ensures
