use Rattle.std.proofs.Common.{rules, ◌≡◌, Some, length, deque_len, ◌∙◌}
use Rattle.html_render_layout_buffer.specs.Padding.{filled}
use Rattle.html_render_layout_buffer.proofs.PieceLines.{outer-changed}
use Rattle.html_render_layout_buffer.proofs.finished.pieces.fill_outer.Goals as goal

pub returns : goal.returns
returns g c xs ys zs all first last =
    let fill = filled {M = g.row.M.Denot} (Some c.args.tag) c.args.width in
    let old = c.args.pieces.now.items in
    let turn = c.rotate_right.new.self.items in
    let end = c.fill_in_turn.new.pieces.items in
    let count : deque_len c.args.pieces.now ≡ length old = search rules in
    let more : deque_len c.fill_in_turn.new.pieces ≡ length end = search rules in
    c.rotate_right-2.ensures.items
    ∙ outer-changed fill xs ys zs old turn end c.args.first c.args.last (deque_len c.args.pieces.now) (deque_len c.fill_in_turn.new.pieces) count more
    all first last c.rotate_right.ensures.items c.in_ok-fill_in_turn.ensures
