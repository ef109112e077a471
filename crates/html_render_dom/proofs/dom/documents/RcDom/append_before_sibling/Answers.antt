use Rattle.std.proofs.Common.{string_bytes, sym}
use Rattle.html_render_dom_nodes.specs.Moves.{inserted_before, taken_out, text_placed}
use Rattle.html_render_dom.proofs.Moves.{IsForest-move_before, IsForest-text_placed}
use Rattle.html_render_dom.proofs.Changed.{IsForest-changed}
use Rattle.html_render_dom.proofs.dom.documents.RcDom.append_before_sibling.Goals as goal

pub invariant_of-self-in-AppendNode : goal.invariant_of-self-in-AppendNode
invariant_of-self-in-AppendNode c =
    let child = c.in-AppendNode.child in
    let parent = c.in-Some.parent in
    let from = c.get_parent-from.result in
    IsForest-changed (λ ns. inserted_before (taken_out ns from child) parent c.args.sibling child) c.self.view_is c.self.invariant
    (λ f. IsForest-move_before c.args.self.now f parent c.args.sibling child (sym c.in-Some.ensures.parent)
    (rw c.in-AppendNode.is at c.requires.child) from c.get_parent-from.ensures.parent) _ c.in_ok-move_before-in-AppendNode.ensures.ok

pub invariant_of-self-in-AppendText : goal.invariant_of-self-in-AppendText
invariant_of-self-in-AppendText c =
    let parent = c.in-Some.parent in
    let last = c.text_before-last.result in
    let more = string_bytes c.in-AppendText.text in
    IsForest-changed (λ ns. text_placed ns parent c.args.sibling last more) c.self.view_is c.self.invariant
    (λ f. IsForest-text_placed c.args.self.now f parent c.args.sibling (sym c.in-Some.ensures.parent) last c.text_before-last.ensures.is_node more) _
    c.in_ok-put_text_before-in-AppendText.ensures.ok
