use Rattle.std.proofs.Common.{[], ◌∷◌, ◌++◌, ap, sym, ◌∙◌, append_assoc}
use Rattle.html_render_tree_convert.specs.Held.{leaf, leaves}
use Rattle.html_render_tree_convert.proofs.Entries.{leaves_append}
use Rattle.html_render_tree_convert.proofs.due.put_all.Goals as goal

pub loop-node-preserved : goal.loop-node-preserved
loop-node-preserved c =
    let n = c.in-Some.node in
    let before = c.loop-node.yielded in
    c.in_ok-put.ensures ∙ ap (λ es. es ++ leaf n ∷ []) c.loop-node.invariant
    ∙ append_assoc c.args.tree.now.items (leaves before) (leaf n ∷ []) ∙ ap (λ es. c.args.tree.now.items ++ es) (sym (leaves_append before (n ∷ [])))
