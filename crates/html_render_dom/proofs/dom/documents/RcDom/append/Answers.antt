use Rattle.std.proofs.Common.{string_bytes}
use Rattle.html_render_dom_nodes.specs.Edits.{attached, text_put}
use Rattle.html_render_dom.proofs.Forests.{IsForest-attached, IsForest-put_text}
use Rattle.html_render_dom.proofs.Changed.{IsForest-changed}
use Rattle.html_render_dom.proofs.dom.documents.RcDom.append.Goals as goal

pub invariant_of-self-in-AppendNode : goal.invariant_of-self-in-AppendNode
invariant_of-self-in-AppendNode c =
    let child = c.in-AppendNode.child in
    IsForest-changed (λ ns. attached ns c.args.parent child) c.self.view_is c.self.invariant
    (λ f. IsForest-attached c.args.self.now f c.args.parent child c.requires.parent (rw c.in-AppendNode.is at c.requires.child)) _
    c.in_ok-attach-in-AppendNode.ensures.ok

pub invariant_of-self-in-AppendText : goal.invariant_of-self-in-AppendText
invariant_of-self-in-AppendText c =
    let last = c.last_text-last.result in
    let more = string_bytes c.in-AppendText.text in
    IsForest-changed (λ ns. text_put ns c.args.parent last more) c.self.view_is c.self.invariant
    (λ f. IsForest-put_text c.args.self.now f c.args.parent c.requires.parent last c.last_text-last.ensures.is_node more) _
    c.in_ok-put_text-in-AppendText.ensures.ok
