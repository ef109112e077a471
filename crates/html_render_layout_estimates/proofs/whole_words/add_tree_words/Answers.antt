use Rattle.std.proofs.Common.{◌+◌, ◌≡◌, ◌∙◌, ◌-◌, get_or, take, drop, refl, sym, ap, arith}
use Rattle.html_render_layout_nodes.specs.declared.tree.Entry.{Entry}
use Rattle.html_render_layout_nodes.specs.declared.tree.RenderNode.{RenderNode}
use Rattle.html_render_layout_nodes.specs.Preorder.{flatten, forest_of}
use Rattle.html_render_layout_estimates.specs.WordSteps.{node_shape, worded_node}
use Rattle.html_render_layout_estimates.proofs.Backward.{Backward-start, Backward-at, Backward-done, Next-here, Next-part, Next-done}
use Rattle.html_render_layout_estimates.proofs.Onward.{changed_worded}
use Rattle.html_render_layout_estimates.proofs.whole_words.add_tree_words.Goals as goal

pub loop-at-init : goal.loop-at-init
loop-at-init c =
    Backward-start (sym c.requires) refl (sym c.in_ok-shapes.ensures)

pub overflow_add-below-in-loop-at : goal.overflow_add-below-in-loop-at
overflow_add-below-in-loop-at c =
    let e = get_or c.loop-at.tree (c.loop-at.at - 1) c.index-tree-at.result in
    let f = Backward-at c.loop-at.invariant c.loop-at-test.true refl (ap (get_or c.loop-at.tree (c.loop-at.at - 1)) c.index-tree-at.is) in
    omega (arith, f.end_known, c.loop-at.shapes.ok.0)

pub slice_bounds-below-count : goal.slice_bounds-below-count
slice_bounds-below-count c =
    let e = get_or c.loop-at.tree (c.loop-at.at - 1) c.index-tree-at.result in
    let f = Backward-at c.loop-at.invariant c.loop-at-test.true refl (ap (get_or c.loop-at.tree (c.loop-at.at - 1)) c.index-tree-at.is) in
    omega (arith, f.subtree_len)

pub slice_bounds-below-start : goal.slice_bounds-below-start
slice_bounds-below-start c =
    let e = get_or c.loop-at.tree (c.loop-at.at - 1) c.index-tree-at.result in
    let f = Backward-at c.loop-at.invariant c.loop-at-test.true refl (ap (get_or c.loop-at.tree (c.loop-at.at - 1)) c.index-tree-at.is) in
    omega (arith, f.subtree_len)

pub slice_bounds-below-end : goal.slice_bounds-below-end
slice_bounds-below-end c =
    let e = get_or c.loop-at.tree (c.loop-at.at - 1) c.index-tree-at.result in
    let f = Backward-at c.loop-at.invariant c.loop-at-test.true refl (ap (get_or c.loop-at.tree (c.loop-at.at - 1)) c.index-tree-at.is) in
    omega (arith, f.end_known, c.as_slice-all.ensures.len, c.loop-at.shapes.ok.0)

pub add_node_words-requires : goal.add_node_words-requires
add_node_words-requires c =
    let e = get_or c.loop-at.tree (c.loop-at.at - 1) c.index-tree-at.result in
    let f = Backward-at c.loop-at.invariant c.loop-at-test.true refl (ap (get_or c.loop-at.tree (c.loop-at.at - 1)) c.index-tree-at.is) in
    (Next-part f c.as_slice-all.ensures.value (omega arith)).kept

pub loop-at-preserved : goal.loop-at-preserved
loop-at-preserved c =
    let e = get_or c.loop-at.tree (c.loop-at.at - 1) c.index-tree-at.result in
    let x = get_or c.loop-at.tree (c.loop-at.at - 1) c.index-tree-at-in-loop-at.result in
    let is_e = ap (get_or c.loop-at.tree (c.loop-at.at - 1)) c.index-tree-at.is in
    let is_x = ap (get_or c.loop-at.tree (c.loop-at.at - 1)) c.index-tree-at-in-loop-at.is in
    let f = Backward-at c.loop-at.invariant c.loop-at-test.true refl is_e in
    let there : e ≡ x = Next-here f refl is_e is_x in
    let size : c.loop-at.at - 1 + e.subtree_len - (c.loop-at.at - 1 + 1) ≡ e.subtree_len - 1 = omega arith in
    let below = forest_of (take (c.loop-at.at - 1 + e.subtree_len - (c.loop-at.at - 1 + 1)) (drop (c.loop-at.at - 1 + 1) c.as_slice-all.result.now)) in
    rw c.set_shape.ensures
    (Next-done f c.as_slice-all.ensures.value size (λ n. c.add_node_words.new.node) _ there refl
    (c.in_ok-shape.ensures.node ∙ ap (λ (y : Entry RenderNode). worded_node y.node below) (sym there))
    (c.in_ok-shape.ensures.shape ∙ ap (λ (y : Entry RenderNode). node_shape c.args.settings.now (worded_node y.node below) below) (sym there)))

pub returns : goal.returns
returns c = (Backward-done c.loop-at.invariant (omega arith)).0 ∙ ap flatten (changed_worded c.args.settings.now (forest_of c.args.tree.now))
