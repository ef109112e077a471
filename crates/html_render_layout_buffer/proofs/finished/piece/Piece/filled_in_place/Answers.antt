use Rattle.std.proofs.Common.{◌≡◌, ◌+◌, ◌-◌, ◌++◌, ◌∷◌, [], Some, length, reverse, sym, ap, ◌∙◌, arith, length-append}
use Rattle.html_render_layout_lines.specs.Line.{columns}
use Rattle.html_render_layout_lines.specs.laws.Columns.{columns-append}
use Rattle.html_render_layout_buffer.specs.Padding.{filled}
use Rattle.html_render_layout_buffer.specs.Pieces.{with_front}
use Rattle.html_render_layout_buffer.proofs.PieceLines.{front-length, only-last, only-filled}
use Rattle.html_render_layout_buffer.proofs.finished.piece.Piece.filled_in_place.Goals as goal

pub line_columns-requires : goal.line_columns-requires
line_columns-requires g c = c.self.invariant.some

pub reopen-requires : goal.reopen-requires
reopen-requires g c = record { «open» = c.self.invariant.closed; some = c.self.invariant.some }

pub invariant_of-result : goal.invariant_of-result
invariant_of-result g c =
    let e = c.in_ok-end_line.ensures.ok in
    record {
      some = omega (arith, ap (λ q. length q.lines) e, length-append c.push_spaces.new.self.lines (c.push_spaces.new.self.line ∷ []));
      closed = ap (λ q. q.line) e;
      counts = c.self.invariant.counts;
    }

pub returns : goal.returns
returns g c =
    let tag = c.args.tag in
    let w = c.args.width in
    let front = reverse c.self.inside.front.items in
    let ls = c.self.inside.lines.lines in
    let open_one = c.reopen.new.self in
    let n = c.columns_missing.result in
    let one : length ls ≡ 1 = sym (front-length front ls) ∙ ap length c.self.view_is ∙ c.requires in
    let last : ls ≡ open_one.lines ++ open_one.line ∷ [] = ap (λ q. q.lines) c.reopen.ensures in
    let missing : n ≡ w - columns (front ++ open_one.line) =
    c.columns_missing.ensures _ (c.counted_sum-columns.ensures _ _ c.self.invariant.counts c.line_columns.ensures)
    ∙ ap (λ l. w - (columns front + columns l)) (only-last ls open_one.lines open_one.line one last)
    ∙ ap (λ k. w - k) (sym (columns-append front open_one.line)) in
    ap (λ q. with_front front q.lines) c.in_ok-end_line.ensures.ok
    ∙ ap (λ q. with_front front (q.lines ++ q.line ∷ [])) c.in_ok-push_spaces.ensures.ok
    ∙ only-filled front tag w n ls open_one.lines open_one.line one last missing
    ∙ ap (λ y. filled (Some tag) w y) c.self.view_is
