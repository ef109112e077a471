use Rattle.std.proofs.Common.{None, [], false, refl}
use Rattle.html_render_dom_nodes.specs.Content.{element, name_of}
use Rattle.html_render_dom_nodes.specs.Edits.{attached_new}
use Rattle.html_render_dom.proofs.Forests.{IsForest-attach_new}
use Rattle.html_render_dom.proofs.Changed.{IsForest-changed}
use Rattle.html_render_dom.proofs.dom.documents.RcDom.append_named.Goals as goal

pub invariant_of-self-2 : goal.invariant_of-self-2
invariant_of-self-2 c =
    let made = element (name_of c.args.name) [] None false in
    IsForest-changed (λ ns. attached_new ns made c.args.parent) c.self.view_is c.self.invariant
    (λ f. IsForest-attach_new c.args.self.now f c.args.parent made refl c.requires) _ c.in_ok-attach_element.ensures.ok
