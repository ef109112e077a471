use Rattle.std.proofs.Common.{rules, ◌≡◌, ◌+◌, ◌-◌, ◌≤◌, take, drop, length, arith}
use Rattle.std.proofs.lemmas.Result.{on_ok_weaker}
use Rattle.html_render_layout_buffer.proofs.PieceLines.{parts, filled-outside, filled-all}
use Rattle.html_render_layout_buffer.proofs.finished.pieces.fill_narrow.Goals as goal

pub returns-then-outer-len : goal.returns-then-outer-len
returns-then-outer-len g c n is =
    let ps = c.args.pieces.now.items in
    let count : c.len-len.result ≡ length ps = search rules in
    let fit : c.args.front + c.args.back ≤ length ps = omega arith in
    let m = length ps - c.args.back in
    let p = parts c.args.front c.args.back ps fit in
    on_ok_weaker c.fill_outer.result
    (λ e. filled-outside c.args.tag c.args.width c.args.front c.args.back c.args.least n ps c.fill_outer.new.pieces.items is fit (omega arith) e)
    (c.fill_outer.ensures (take c.args.front (take m ps)) (drop c.args.front (take m ps)) (drop m ps) p.all p.first p.last)

pub returns : goal.returns
returns g c n is =
    let ps = c.args.pieces.now.items in
    let count : c.len-len.result ≡ length ps = search rules in
    on_ok_weaker c.fill_in_turn.result (λ e. filled-all c.args.tag c.args.width c.len-len.result ps c.fill_in_turn.new.pieces.items count e) c.fill_in_turn.ensures
