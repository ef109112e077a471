use Rattle.std.proofs.Common.{◌++◌, set, take, ap, sym, ◌∙◌, arith}
use Rattle.html_render_layout_nodes.specs.declared.tree.Entry.{Entry}
use Rattle.html_render_layout_nodes.specs.declared.tree.RenderNode.{RenderNode}
use Rattle.html_render_tree_convert.specs.Held.{with_kind}
use Rattle.html_render_tree_convert.proofs.Entries.{set-split}
use Rattle.html_render_tree_convert.proofs.builder.set_kind.Goals as goal

pub returns-in-Some : goal.returns-in-Some
returns-in-Some c =
    let es = c.args.tree.now.items in
    let s = c.args.start in
    let e : Entry RenderNode = c.in-Some.entry.now in
    let made : Entry RenderNode = record e { node = record e.node { kind = c.args.kind } } in
    let split = set-split es s e made (omega (arith, c.in-Some.ensures.item.3.0)) c.in-Some.ensures.value in
    ap (λ (n : RenderNode). let x : Entry RenderNode = record e { node = n } in set es s x) c.replace_kind.ensures ∙ split.0
    ∙ ap (λ l. take s es ++ with_kind c.args.kind l) (sym split.1)
