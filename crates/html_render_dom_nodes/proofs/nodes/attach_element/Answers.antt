use Rattle.std.proofs.Common.{rules, arith, ◌≡◌, ◌<◌, ◌++◌, ◌∷◌, [], length, map, vec_len, None, false}
use Rattle.std.proofs.lemmas.List.{length-map, map-append}
use Rattle.html_render_dom_nodes.specs.Content.{element, name_of}
use Rattle.html_render_dom_nodes.specs.Nodes.{node_in, node_of}
use Rattle.html_render_dom_nodes.specs.Edits.{with_children}
use Rattle.html_render_dom_nodes.proofs.Writes.{attached_new-named}
use Rattle.html_render_dom_nodes.proofs.nodes.attach_element.Goals as goal

pub returns-clause-ok : goal.returns-clause-ok
returns-clause-ok c =
    let old = map node_of c.args.nodes.now.items in
    let parent = c.args.parent in
    let len : vec_len c.args.nodes.now ≡ length old = search (rules, length-map) in
    let node : c.new-element.result ≡ length old = omega (arith, len, c.reserve.ensures.len, c.len.ensures, c.new-element.ensures) in
    let at : parent < length old = omega (arith, len, c.requires) in
    let pushed : map node_of c.push_child.new.nodes.items ≡ with_children old parent ((node_in old parent).children ++ length old ∷ []) =
    rw (c.reserve.ensures.items, node) at c.in_ok-push_child.ensures.ok in
    rw (c.push_reserved.ensures.items, map-append, pushed, c.element_below-below.ensures) (attached_new-named old (element (name_of c.args.name) [] None false) parent at)
