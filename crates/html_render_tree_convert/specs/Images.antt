-- What an image and a drawing are called, and where an image lies.
use Rattle.std.specs.Prelude.{ℕ, not, ◌&&◌, ◌||◌, Bool, true, false, List, [], ◌++◌, codes, fold, if◌then◌else◌}
use Rattle.std.specs.Str.{bytes_eq}
use Rattle.html_render_dom_nodes.specs.Content.{Property, Space, svg, Content, text, element}
use Rattle.html_render_dom_values.specs.Forest.{Forest, none, node}
use Rattle.html_render_dom_styles.specs.Selectors.{is_filled}
use Rattle.html_render_layout_nodes.specs.declared.tree.ImageParts.{ImageParts}

-- ---- images

-- an attribute is read: `alt` is the title and `src` the source, if its value isn't empty; it replaces one read before. Once there are
-- a title and a source, no more is read
abbrev pub read : ImageParts → Property → ImageParts
read image p =
    if not (is_filled p.value) || (is_filled image.source && is_filled image.title) then image
    else if bytes_eq p.name.local (codes "alt") then record image { title = p.value }
    else if bytes_eq p.name.local (codes "src") then record image { source = p.value }
    else image

-- THE PARTS of an image: its attributes are read in their order
abbrev pub image_parts : List Property → ImageParts
image_parts properties = fold read (record { source = []; title = [] }) properties

-- ---- drawings

-- the texts that are roots of these trees, joined
abbrev pub direct_texts : Forest Content → List ℕ
direct_texts none = []
direct_texts (node (text contents) below beside) = contents ++ direct_texts beside
direct_texts (node content below beside) = direct_texts beside

abbrev pub is_svg : Space → Bool
is_svg svg = true
is_svg _ = false

-- the trees in the last of the `title` elements of SVG before any other element, and those in the title found before where there is none
abbrev pub in_last_title : (found : Forest Content) → Forest Content → Forest Content
in_last_title found none = found
in_last_title found (node (element name properties template_contents integration_point) below beside) =
    if is_svg name.space && bytes_eq name.local (codes "title") then in_last_title below beside else found
in_last_title found (node content below beside) = in_last_title found beside

-- THE TITLE of a drawing over these trees
abbrev pub drawing_title : Forest Content → List ℕ
drawing_title below = direct_texts (in_last_title none below)
