-- The index of attributes by local name.
use Rattle.std.specs.Prelude.{◌≡◌, ℕ, ◌+◌, List, [], ◌∷◌, Option, Some, None, String, if◌then◌else◌}
use Rattle.std.specs.BTreeMap.{BTreeMap, get_by_text}
use Rattle.std.specs.Str.{bytes_eq}
use Rattle.html_render_dom_nodes.specs.declared.names.Attribute.{Attribute}

-- the first of two places if there is one, else the second
abbrev pub first_of : Option ℕ → Option ℕ → Option ℕ
first_of (Some place) other = Some place
first_of None other = other

-- the place of the first attribute with a local name; places begin with `start`
abbrev pub place_of : (local : List ℕ) → (start : ℕ) → List Attribute → Option ℕ
place_of local start [] = None
place_of local start (a ∷ attrs) = if bytes_eq local a.name.local then Some start else place_of local (start + 1) attrs

-- whether a map has the place of the first attribute with each local name, and no other names
abbrev pub TellsPlaces : {A : Type 0} → BTreeMap (String A) ℕ → List Attribute → Type 0
TellsPlaces places attrs = (local : List ℕ) → get_by_text places local ≡ place_of local 0 attrs
