use Rattle.std.proofs.Common.{◌≡◌, ℕ, suc, ◌+◌, ◌-◌, ◌++◌, ◌∷◌, drop, length, take, ap, sym, ◌∙◌, arith}
use Rattle.std.proofs.lemmas.List.{length-drop}
use Rattle.html_render_layout_nodes.specs.declared.tree.Entry.{Entry}
use Rattle.html_render_layout_nodes.specs.declared.tree.RenderNode.{RenderNode}
use Rattle.html_render_tree_convert.specs.Held.{sized}
use Rattle.html_render_tree_convert.proofs.Entries.{set-split}
use Rattle.html_render_tree_convert.proofs.builder.write_size.Goals as goal

pub returns-then-start-len : goal.returns-then-start-len
returns-then-start-len c =
    let es = c.args.tree.now.items in
    let s = c.args.start in
    let e : Entry RenderNode = c.index_mut.result.now in
    let made : Entry RenderNode = record e { subtree_len = c.len-len.result - s } in
    let split = set-split es s e made (omega (arith, c.if-start-len.true, c.len-len.ensures, c.args.tree.now.ok.0)) c.index_mut.ensures.value in
    let rest = drop (suc s) es in
    let size : c.len-len.result - s ≡ length rest + 1 =
    omega (arith, c.if-start-len.true, c.len-len.ensures, c.args.tree.now.ok.0, length-drop (suc s) es) in
    split.0 ∙ ap (λ (n : ℕ). take s es ++ record e { subtree_len = n } ∷ rest) size ∙ ap (λ l. take s es ++ sized l) (sym split.1)
