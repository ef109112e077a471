use Rattle.html_render_dom_nodes.specs.Edits.{text_put}
use Rattle.html_render_dom.proofs.Forests.{IsForest-put_text}
use Rattle.html_render_dom.proofs.Changed.{IsForest-changed}
use Rattle.html_render_dom.proofs.dom.documents.RcDom.append_str.Goals as goal

pub invariant_of-self-2 : goal.invariant_of-self-2
invariant_of-self-2 c =
    let last = c.last_text-last.result in
    IsForest-changed (λ ns. text_put ns c.args.parent last c.args.text.now) c.self.view_is c.self.invariant
    (λ f. IsForest-put_text c.args.self.now f c.args.parent c.requires last c.last_text-last.ensures.is_node c.args.text.now) _
    c.in_ok-put_str.ensures.ok
