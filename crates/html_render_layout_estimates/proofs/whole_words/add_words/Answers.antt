use Rattle.std.proofs.Common.{◌+◌, ◌-◌, ◌≡◌, get_or, sym, ap, ◌∙◌, arith}
use Rattle.std.proofs.lemmas.List.{take_at}
use Rattle.html_render_layout_estimates.proofs.Onward.{Onward-at, Onward-past, Onward-table, Onward-done}
use Rattle.html_render_layout_estimates.proofs.whole_words.add_words.Goals as goal

pub overflow_add-end : goal.overflow_add-end
overflow_add-end c =
    let e = get_or c.loop-at.nodes c.loop-at.at c.index-nodes-at.result in
    let f = Onward-at _ _ _ _ e c.loop-at.invariant (omega arith) (ap (get_or c.loop-at.nodes c.loop-at.at) c.index-nodes-at.is) in
    omega (arith, f.end, c.loop-at.auto.nodes, c.as_mut_slice-nodes.ensures.len, c.args.entries.now.ok.0)

pub slice_bounds-add_tree_words-end : goal.slice_bounds-add_tree_words-end
slice_bounds-add_tree_words-end c =
    let e = get_or c.loop-at.nodes c.loop-at.at c.index-nodes-at.result in
    let f = Onward-at _ _ _ _ e c.loop-at.invariant (omega arith) (ap (get_or c.loop-at.nodes c.loop-at.at) c.index-nodes-at.is) in
    f.end

pub add_tree_words-requires : goal.add_tree_words-requires
add_tree_words-requires c =
    let e = get_or c.loop-at.nodes c.loop-at.at c.index-nodes-at.result in
    let f = Onward-at _ _ _ _ e c.loop-at.invariant (omega arith) (ap (get_or c.loop-at.nodes c.loop-at.at) c.index-nodes-at.is) in
    let n : c.loop-at.at + e.subtree_len - c.loop-at.at ≡ e.subtree_len = omega arith in
    rw n f.tree.kept

pub loop-at-smaller-then-is_table : goal.loop-at-smaller-then-is_table
loop-at-smaller-then-is_table c =
    let e = get_or c.loop-at.nodes c.loop-at.at c.index-nodes-at.result in
    let f = Onward-at _ _ _ _ e c.loop-at.invariant (omega arith) (ap (get_or c.loop-at.nodes c.loop-at.at) c.index-nodes-at.is) in
    omega (arith, f.subtree_len, f.end, c.loop-at.auto.nodes)

pub loop-at-preserved-then-is_table : goal.loop-at-preserved-then-is_table
loop-at-preserved-then-is_table c =
    let e = get_or c.loop-at.nodes c.loop-at.at c.index-nodes-at.result in
    let f = Onward-at _ _ _ _ e c.loop-at.invariant (omega arith) (ap (get_or c.loop-at.nodes c.loop-at.at) c.index-nodes-at.is) in
    Onward-table _ _ _ _ _ e _ f (omega arith) c.in_ok-add_tree_words.ensures

pub loop-at-preserved : goal.loop-at-preserved
loop-at-preserved c =
    let e = get_or c.loop-at.nodes c.loop-at.at c.index-nodes-at.result in
    let f = Onward-at _ _ _ _ e c.loop-at.invariant (omega arith) (ap (get_or c.loop-at.nodes c.loop-at.at) c.index-nodes-at.is) in
    Onward-past _ _ _ _ e f (sym c.is_table.ensures ∙ c.if-is_table.false)

pub returns : goal.returns
returns c =
    take_at c.loop-at.nodes _ _ (omega (arith, c.loop-at.auto.nodes, c.as_mut_slice-nodes.ensures.len, c.args.entries.now.ok.0))
    ∙ Onward-done _ _ _ _ c.loop-at.invariant (omega arith)
