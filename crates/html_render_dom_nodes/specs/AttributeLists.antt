-- The attributes of an element, by their storage.
use Rattle.std.specs.Prelude.{Bool, true, false, List, [], ◌∷◌}
use Rattle.html_render_dom_nodes.specs.declared.attributes.Storage.{Storage}
use Rattle.html_render_dom_nodes.specs.declared.attributes.Storage.TheVariants.{Empty, Single, Several}
use Rattle.html_render_dom_nodes.specs.declared.names.Attribute.{Attribute}

abbrev pub attributes_in : Storage → List Attribute
attributes_in Empty = []
attributes_in (Single attribute) = attribute.value ∷ []
attributes_in (Several list) = list.value

-- whether a storage has one attribute, outside a list
abbrev pub is_single : Storage → Bool
is_single Empty = false
is_single (Single attribute) = true
is_single (Several list) = false
