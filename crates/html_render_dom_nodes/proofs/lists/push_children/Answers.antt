use Rattle.std.proofs.Common.{rules, ◌≡◌, ◌<◌, ◌++◌, length, ap, slice_index_or}
use Rattle.smallvec.specs.SmallVec.{HasRoomFor}
use Rattle.html_render_dom_nodes.specs.Nodes.{node_of}
use Rattle.html_render_dom_nodes.proofs.Children.{ok_then}
use Rattle.html_render_dom_nodes.proofs.Writes.{written}
use Rattle.html_render_dom_nodes.proofs.lists.push_children.Goals as goal

pub returns-clause-list : goal.returns-clause-list
returns-clause-list c =
    let items = c.args.nodes.now.items in
    let n = c.index_mut.result.now in
    let at : c.number.result < length items = search rules in
    let more = c.args.children.now in
    let read : n ≡ slice_index_or items c.args.parent n = rw c.number.ensures at c.index_mut.ensures.value in
    let room : HasRoomFor n.children (length more) = rw read (c.requires.room n) in
    rw (← c.number.ensures) (written items c.number.result n _ at c.index_mut.ensures.value
    (λ x. record x { children = x.children ++ more })
    (ap (λ cs. record (node_of n) { children = cs })
    (ok_then c.extend_from_slice.result _ (c.extend_from_slice.ensures.succeeds room) c.extend_from_slice.ensures.ok)))
