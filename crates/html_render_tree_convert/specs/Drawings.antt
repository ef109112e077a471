-- What one child of a drawing or of its title gives, as code asks it.
use Rattle.std.specs.Prelude.{ℕ, ◌&&◌, Bool, false, List, [], codes}
use Rattle.std.specs.Str.{bytes_eq}
use Rattle.html_render_dom_nodes.specs.Content.{Content, text, element}
use Rattle.html_render_tree_convert.specs.Images.{is_svg}

-- the contents of a text; an empty text for any other node
abbrev pub text_in : Content → List ℕ
text_in (text contents) = contents
text_in _ = []

-- whether a node is a `title` of SVG
abbrev pub is_title_node : Content → Bool
is_title_node (element name properties template_contents integration_point) =
    is_svg name.space && bytes_eq name.local (codes "title")
is_title_node _ = false
