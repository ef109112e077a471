use Rattle.std.proofs.Common.{[], ◌∷◌, refl}
use Rattle.html_render_dom_nodes.specs.Content.{property_of}
use Rattle.html_render_dom_nodes.specs.Edits.{with_content}
use Rattle.html_render_dom_nodes.specs.Elements.{completed}
use Rattle.html_render_dom_nodes.specs.Nodes.{node_in}
use Rattle.html_render_dom.specs.laws.Forests.{IsNode-element}
use Rattle.html_render_dom.proofs.Forests.{IsForest-with_content, contents_in-completed}
use Rattle.html_render_dom.proofs.Changed.{IsForest-changed}
use Rattle.html_render_dom.proofs.dom.documents.RcDom.add_attr_if_missing.Goals as goal

pub invariant_of-self-2 : goal.invariant_of-self-2
invariant_of-self-2 c =
    let attrs = property_of c.args.attr ∷ [] in
    IsForest-changed (λ ns. with_content ns c.args.node (completed (node_in ns c.args.node).content attrs)) c.self.view_is c.self.invariant
    (λ f. IsForest-with_content c.args.self.now f c.args.node (λ x. completed x attrs) refl (λ x. contents_in-completed x attrs)
    (IsNode-element c.args.self.now c.args.node c.requires)) _ c.in_ok-complete_one.ensures.ok
