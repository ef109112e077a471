use Rattle.std.proofs.Common.{◌+◌, [], sym, ap, ◌∙◌, subst, arith}
use Rattle.std.proofs.lemmas.List.{append-nil}
use Rattle.html_render_dom_nodes.specs.Content.{content_of}
use Rattle.html_render_dom.specs.Dom.{IsForest}
use Rattle.html_render_dom.proofs.Dumps.{opened, dump-document, dump-element}
use Rattle.html_render_dom.proofs.dom.documents.RcDom.write_start.Goals as goal

pub returns-in-Document : goal.returns-in-Document
returns-in-Document c =
    let f = subst IsForest c.self.view_is c.self.invariant in
    opened c.open_children.result c.args.self.now f c.args.node c.args.indent c.args.indent c.requires.node (omega arith) c.requires.indent _ _ [] _ _
    c.requires.frames (sym (append-nil _))
    (dump-document c.args.self.now f c.args.node c.args.indent c.requires.node (sym c.data.ensures ∙ ap content_of c.in-Document.is)) c.open_children.ensures

pub returns-in_ok-write_line-in-Element : goal.returns-in_ok-write_line-in-Element
returns-in_ok-write_line-in-Element c =
    let f = subst IsForest c.self.view_is c.self.invariant in
    opened c.open_children-in-Element.result c.args.self.now f c.args.node c.args.indent (c.args.indent + 1) c.requires.node (omega arith)
    c.requires.indent _ _ _ _ _ c.requires.frames (rw c.as_str-in-Element.ensures at c.in_ok-write_line-in-Element.ensures)
    (dump-element c.args.self.now f c.args.node c.args.indent _ _ _ _ c.requires.node (sym c.data.ensures ∙ ap content_of c.in-Element.is))
    c.open_children-in-Element.ensures
