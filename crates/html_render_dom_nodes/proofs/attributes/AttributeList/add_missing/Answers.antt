use Rattle.std.proofs.Common.{rules, tests, ◌≡◌, List, ◌++◌, Result, Ok, Err, OnOk, map, not, filter, subst}
use Rattle.std.proofs.lemmas.Fn.{filter_same}
use Rattle.std.proofs.lemmas.List.{map-append}
use Rattle.html_render_dom_nodes.specs.declared.names.Attribute.{Attribute}
use Rattle.html_render_dom_nodes.specs.Content.{name_of, property_of}
use Rattle.html_render_dom_nodes.specs.Elements.{has_name, with_missing}
use Rattle.html_render_dom_nodes.proofs.Mapped.{map-filter}
use Rattle.html_render_dom_nodes.proofs.attributes.AttributeList.add_missing.Goals as goal

-- the attributes after those of the given ones whose names are new are appended
added : {T E : Type 0} (r : Result T E) (old given left new : List Attribute) →
    left ≡ filter (λ a. not (has_name (map property_of old) (name_of a.name))) given → OnOk r (new ≡ old ++ left) →
    OnOk r (map property_of new ≡ with_missing (map property_of old) (map property_of given))
added (Ok x) old given left new q e = rw (e, q, map-append, map-filter property_of (λ p. not (has_name (map property_of old) p.name)) given)
added (Err y) old given left new q e = tt

pub returns-clause-ok : goal.returns-clause-ok
returns-clause-ok c =
    let same = c.in_ok-index.ensures in
    subst (λ old. OnOk c.append.result (map property_of c.append.new.self ≡ with_missing (map property_of old) (map property_of c.args.given.items))) same
    (added c.append.result c.index.new.self c.args.given.items c.retain.new.self.items c.append.new.self
    (filter_same _ (λ a. not (has_name (map property_of c.index.new.self) (name_of a.name))) _
    (λ x b q k. search (rules, tests)) _ _ c.retain.ensures.filtered) c.append.ensures.ok)
