-- Which of an element's attributes names its mark.
use Rattle.std.specs.Prelude.{ℕ, Bool, ◌&&◌, ◌||◌, List, codes, find, Option, option_map}
use Rattle.std.specs.Str.{bytes_eq}
use Rattle.html_render_dom_nodes.specs.Content.{Property, is_html, Name}

-- whether an attribute of an element names its mark: `id` does, and the `name` of an `a` of HTML
abbrev pub names_mark : (element : Name) → Property → Bool
names_mark element p =
    bytes_eq p.name.local (codes "id")
    || (bytes_eq p.name.local (codes "name") && (is_html element.space && bytes_eq element.local (codes "a")))

-- THE MARK of an element: the first attribute that names one
abbrev pub mark_of : (element : Name) → List Property → Option (List ℕ)
mark_of element properties = option_map (λ p. p.value) (find (names_mark element) properties)
