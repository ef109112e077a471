use Rattle.std.proofs.Common.{rules, tests, ◌∙◌}
use Rattle.std.proofs.lemmas.Iterator.{YieldsList-from_slice}
use Rattle.std.proofs.lemmas.Iterator.Search.{any_from_yields_List}
use Rattle.html_render_dom_nodes.specs.Content.{name_of, property_of}
use Rattle.html_render_dom_nodes.specs.Names.{name_eq}
use Rattle.html_render_dom_nodes.proofs.Mapped.{list_any-map}
use Rattle.html_render_dom_nodes.proofs.names.has_name.Goals as goal

pub returns : goal.returns
returns c =
    let name = name_of c.args.name.now in
    let xs = c.args.attrs.now in
    any_from_yields_List (λ a. name_eq (name_of a.name) name) _ _ _ c.any.ensures.ran (YieldsList-from_slice xs cc)
    (λ x b q k. search (rules, tests)) ∙ list_any-map property_of (λ p. name_eq p.name name) xs
