use Rattle.std.proofs.Common.{refl, string_bytes}
use Rattle.html_render_dom_nodes.specs.Content.{doctype}
use Rattle.html_render_dom_nodes.specs.Edits.{attached_new}
use Rattle.html_render_dom.proofs.Forests.{IsForest-attach_new}
use Rattle.html_render_dom.proofs.Changed.{IsForest-changed}
use Rattle.html_render_dom.proofs.dom.documents.RcDom.append_doctype_to_document.Goals as goal

pub invariant_of-self-2 : goal.invariant_of-self-2
invariant_of-self-2 c =
    let made = doctype (string_bytes c.args.name) (string_bytes c.args.public_id) (string_bytes c.args.system_id) in
    IsForest-changed (λ ns. attached_new ns made 0) c.self.view_is c.self.invariant
    (λ f. IsForest-attach_new c.args.self.now f 0 made refl f.has_document) _
    (rw (c.in_ok-doctype.ensures, c.get_document-document.ensures.document) at c.in_ok-attach_new.ensures.ok)
