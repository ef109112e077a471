use Rattle.std.proofs.Common.{◌≡◌, ℕ, ◌-◌, Option, length, drop, map, Some, None, IfSome, sym, ap, subst, ◌∙◌, arith}
use Rattle.std.specs.BTreeMap.{get_by_text}
use Rattle.html_render_dom_nodes.specs.Content.{name_of, property_of}
use Rattle.html_render_dom_nodes.specs.Elements.{has_name}
use Rattle.html_render_dom_nodes.specs.Places.{TellsPlaces, place_of}
use Rattle.html_render_dom_nodes.proofs.Places.{named_from, none_named, place_within}
use Rattle.html_render_dom_nodes.proofs.attributes.AttributeList.has.Goals as goal
use Rattle.html_render_dom_nodes.proofs.attributes.AttributeList.has.Goals.{After-get}

-- the index has the place of the first attribute with the name's local name
told : (c : After-get) (found : Option ℕ) →
    found ≡ get_by_text c.deref.result.now c.as_str.result.now → place_of c.args.name.now.local 0 c.self.inside.list.items ≡ found
told c found is =
    let tells : TellsPlaces c.in-Some.places.value c.self.inside.list.items =
    subst (λ o. IfSome o (λ places. TellsPlaces places.value c.self.inside.list.items)) c.in-Some.is c.self.invariant in
    sym (tells c.args.name.now.local)
    ∙ ap (get_by_text c.in-Some.places.value) (sym c.as_str.ensures)
    ∙ ap (λ m. get_by_text m c.as_str.result.now) (sym c.deref.ensures)
    ∙ sym is

pub has_name_from-requires : goal.has_name_from-requires
has_name_from-requires c =
    let is = told (goal.at.has_name_from-requires c).After-get (Some c.in-Some-get.place.now) c.in-Some-get.ensures.value in
    let within = place_within c.args.name.now.local 0 c.self.inside.list.items c.in-Some-get.place.now is in
    omega (arith, within.1, ap length c.as_slice-in-Some-get.ensures.value)

pub returns-in-Some-get : goal.returns-in-Some-get
returns-in-Some-get c =
    let name = name_of c.args.name.now in
    let is = told (goal.at.returns-in-Some-get c).After-get (Some c.in-Some-get.place.now) c.in-Some-get.ensures.value in
    let from_first : c.in-Some-get.place.now ≡ c.in-Some-get.place.now - 0 = omega arith in
    c.has_name_from.ensures
    ∙ ap (λ xs. has_name (map property_of (drop c.in-Some-get.place.now xs)) name) c.as_slice-in-Some-get.ensures.value
    ∙ ap (λ n. has_name (map property_of (drop n c.self.inside.list.items)) name) from_first
    ∙ named_from name 0 c.self.inside.list.items c.in-Some-get.place.now is
    ∙ ap (λ xs. has_name (map property_of xs) name) c.self.view_is

pub returns-in-None : goal.returns-in-None
returns-in-None c =
    let name = name_of c.args.name.now in
    let none = told (goal.at.returns-in-None c).After-get None c.in-None.ensures.value in
    sym (none_named name 0 c.self.inside.list.items none) ∙ ap (λ xs. has_name (map property_of xs) name) c.self.view_is
