-- Values of an element's attributes.
use Rattle.std.specs.Prelude.{ℕ, List, Option, option_map, find}
use Rattle.std.specs.Str.{bytes_eq}
use Rattle.html_render_dom_nodes.specs.Content.{Property}

-- the value of the first attribute with a local name, in any namespace
abbrev pub first_value : (name : List ℕ) → List Property → Option (List ℕ)
first_value name properties = option_map (λ p. p.value) (find (λ p. bytes_eq p.name.local name) properties)
