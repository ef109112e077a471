use Rattle.std.proofs.Common.{rules}
use Rattle.std.proofs.lemmas.List.{length-map}
use Rattle.html_render_dom.specs.Documents.{dom_of}
use Rattle.html_render_dom.proofs.Forests.{grown-element, IsFresh-grown}
use Rattle.html_render_dom.proofs.dom.documents.RcDom.create_element.Goals as goal

pub invariant_of-self-2 : goal.invariant_of-self-2
invariant_of-self-2 c = (grown-element (dom_of c.self.inside) c.self.invariant _ _ _ _ c.in_ok-push_element.ensures.ok).forest

pub returns-clause-fresh : goal.returns-clause-fresh
returns-clause-fresh c =
    IsFresh-grown (dom_of c.self.inside) _ c.self.view_is c.self.invariant _
    (grown-element (dom_of c.self.inside) c.self.invariant _ _ _ _ c.in_ok-push_element.ensures.ok) _ (search (rules, length-map))
