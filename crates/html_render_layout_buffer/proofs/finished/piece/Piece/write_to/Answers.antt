use Rattle.std.proofs.Common.{rules, ◌≡◌, ◌++◌, [], length, reverse, sym, ap, ◌∙◌}
use Rattle.std.proofs.lemmas.Result.{on_ok_weaker}
use Rattle.html_render_layout_buffer.proofs.Growing.{front-copied}
use Rattle.html_render_layout_buffer.proofs.PieceLines.{front-none}
use Rattle.html_render_layout_buffer.proofs.finished.piece.Piece.write_to.Goals as goal

pub returns-then-is_empty : goal.returns-then-is_empty
returns-then-is_empty g c =
    let old = c.args.to.now.lines in
    let ls = c.self.inside.lines.lines in
    let few : length c.self.inside.front.items ≡ 0 = search rules in
    on_ok_weaker c.append_all.result
    (λ e. e ∙ ap (λ l. record { lines = old ++ ls; line = l }) c.self.invariant.closed
    ∙ ap (λ y. record { lines = old ++ y; line = [] }) (sym (front-none c.self.inside.front.items ls few) ∙ c.self.view_is))
    c.append_all.ensures.ok

pub returns : goal.returns
returns g c =
    let to = c.args.to.now in
    let front = reverse c.self.inside.front.items in
    let begun = c.in_ok-push_reversed.ensures.ok ∙ ap (λ y. record { lines = to.lines; line = to.line ++ reverse y }) c.as_slice.ensures.value in
    on_ok_weaker c.append_rest.result
    (λ e. front-copied to c.push_reversed.new.self c.append_ended.new.self c.append_rest.new.self front c.self.inside.lines.lines
    c.self.invariant.some begun c.requires c.in_ok-append_ended.ensures.ok e
    ∙ ap (λ y. record { lines = to.lines ++ y; line = [] }) c.self.view_is)
    c.append_rest.ensures

pub append_all-requires : goal.append_all-requires
append_all-requires g c = c.requires

pub append_ended-requires : goal.append_ended-requires
append_ended-requires g c = c.self.invariant.some

pub append_rest-requires : goal.append_rest-requires
append_rest-requires g c = record { some = c.self.invariant.some; «open» = ap (λ q. q.line) c.in_ok-append_ended.ensures.ok }
