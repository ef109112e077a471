use Rattle.std.proofs.Common.{rules, map}
use Rattle.std.proofs.lemmas.List.{length-map, map-append}
use Rattle.html_render_dom_nodes.specs.Content.{content_of}
use Rattle.html_render_dom_nodes.specs.Nodes.{node_of}
use Rattle.html_render_dom.specs.Documents.{dom_of}
use Rattle.html_render_dom.proofs.Forests.{grown-created, IsFresh-grown}
use Rattle.html_render_dom.proofs.dom.documents.RcDom.create.Goals as goal

pub invariant_of-self-2 : goal.invariant_of-self-2
invariant_of-self-2 c =
    (grown-created (dom_of c.self.inside) c.self.invariant (content_of c.args.contents) c.requires (map node_of c.push.new.self.items)
    (rw (c.in_ok-push.ensures.items, map-append, c.lone.ensures))).forest

pub returns-clause-fresh : goal.returns-clause-fresh
returns-clause-fresh c =
    IsFresh-grown (dom_of c.self.inside) _ c.self.view_is c.self.invariant _ (grown-created (dom_of c.self.inside) c.self.invariant
    (content_of c.args.contents) c.requires (map node_of c.push.new.self.items) (rw (c.in_ok-push.ensures.items, map-append, c.lone.ensures))) _
    (search (rules, length-map))
