use Rattle.std.proofs.Common.{rules, arith, ◌≡◌, ◌<◌, length, map, ap, sym, ◌∙◌}
use Rattle.html_render_dom_nodes.specs.Nodes.{node_in, node_of}
use Rattle.html_render_dom_nodes.specs.laws.Nodes.{node_in-map}
use Rattle.html_render_dom_nodes.proofs.lists.move_children.Goals as goal

pub push_children-requires-clause-room : goal.push_children-requires-clause-room
push_children-requires-clause-room c =
    let items = c.args.nodes.now.items in
    let n = c.index.result.now in
    let at : c.number.result < length items = search rules in
    let read = node_in-map items c.number.result n at c.index.ensures in
    let kids : (node_in (map node_of items) c.args.from).children ≡ n.children.items =
    rw (← c.number.ensures) (ap (λ x. x.children) read) in
    let same : length c.as_slice.result.now ≡ length n.children.items =
    ap length (c.as_slice.ensures ∙ c.take_children-moved.ensures.list
    ∙ ap (λ ns. (node_in ns c.args.from).children) c.reserve_children.ensures.same ∙ kids) in
    let room = c.take_children-moved.ensures.room c.args.to c.len-more.result
    (λ e. c.requires.apart (sym e)) c.in_ok-reserve_children.ensures.room in
    λ other. omega (arith, room other, same, c.len-more.ensures)
