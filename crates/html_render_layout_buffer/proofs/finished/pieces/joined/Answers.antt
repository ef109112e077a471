use Rattle.std.proofs.Common.{rules, ◌≡◌, ◌-◌, ◌++◌, take, drop, length, deque_len, ap, ◌∙◌}
use Rattle.html_render_layout_buffer.proofs.PieceLines.{turned}
use Rattle.html_render_layout_buffer.proofs.finished.pieces.joined.Goals as goal

pub returns-then-len : goal.returns-then-len
returns-then-len g c =
    let all = c.append.new.self.items in
    let k = c.len-moved.result in
    let count : deque_len c.append.new.self ≡ length all = search rules in
    let moved : k ≡ length c.args.pieces.items = search rules in
    c.rotate_right.ensures.items ∙ ap (λ n. drop (n - k) all ++ take (n - k) all) count
    ∙ turned c.args.others.items c.args.pieces.items all k c.in_ok-append.ensures.items moved
