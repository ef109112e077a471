-- Equality of namespaces, names and attributes, which is that of their values.
use Rattle.std.specs.Prelude.{Bool, true, false, ◌&&◌}
use Rattle.std.specs.Str.{bytes_eq}
use Rattle.html_render_dom_nodes.specs.Content.{Space, no_space, html, svg, mathml, other, Name, Property}

abbrev pub space_eq : Space → Space → Bool
space_eq no_space no_space = true
space_eq html html = true
space_eq svg svg = true
space_eq mathml mathml = true
space_eq (other a) (other b) = bytes_eq a b
space_eq _ _ = false

abbrev pub name_eq : Name → Name → Bool
name_eq a b = space_eq a.space b.space && bytes_eq a.local b.local

abbrev pub property_eq : Property → Property → Bool
property_eq a b = name_eq a.name b.name && bytes_eq a.value b.value
