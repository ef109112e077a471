-- Tests and filters of mapped lists.
use Rattle.std.proofs.Common.{◌≡◌, List, [], ◌∷◌, Bool, true, false, ◌||◌, cond, map, refl, sym, ap, filter}
use Rattle.std.specs.List.{list_any}
use Rattle.html_render_dom_nodes.specs.declared.names.Attribute.{Attribute}
use Rattle.html_render_dom_nodes.specs.Content.{Property, property_of}
use Rattle.html_render_dom_nodes.specs.Elements.{with_missing}

pub list_any-map : {X Y : Type 0} (f : X → Y) (test : Y → Bool) (xs : List X) → list_any (λ x. test (f x)) xs ≡ list_any test (map f xs)
list_any-map f test [] = refl
list_any-map f test (x ∷ xs) = ap (λ b. test (f x) || b) (list_any-map f test xs)

chosen : {X Y : Type 0} (f : X → Y) (x : X) (xs : List X) (b : Bool) → map f (cond b (x ∷ xs) xs) ≡ cond b (f x ∷ map f xs) (map f xs)
chosen f x xs b = elim b as (λ v. map f (cond v (x ∷ xs) xs) ≡ cond v (f x ∷ map f xs) (map f xs)) [ true ↦ refl | false ↦ refl ]

pub map-filter : {X Y : Type 0} (f : X → Y) (test : Y → Bool) (xs : List X) → map f (filter (λ x. test (f x)) xs) ≡ filter test (map f xs)
map-filter f test [] = refl
map-filter f test (x ∷ xs) = rw (← map-filter f test xs) (chosen f x (filter (λ y. test (f y)) xs) (test (f x)))

all_missing : (given : List Property) → with_missing [] given ≡ given
all_missing [] = refl
all_missing (p ∷ given) = ap (λ ps. p ∷ ps) (all_missing given)

-- an element without attributes lacks each given one
pub missing_each : (old given new : List Attribute) → old ≡ [] → new ≡ given →
    map property_of new ≡ with_missing (map property_of old) (map property_of given)
missing_each old given new none all = rw (none, all) (sym (all_missing (map property_of given)))
