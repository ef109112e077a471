-- What becomes of each element, by its name and its attributes, and which style its node has.
use Rattle.std.specs.Prelude.{ℕ, ◌+◌, ◌^◌, ℤ, pos, neg_ℤ, int_le, int_lt, Bool, true, false, not, ◌&&◌, List, [], ◌∷◌, codes, Option}
use Rattle.std.specs.Prelude.{◌++◌, option_and_then, option_to_list, unwrap_or, if◌then◌else◌}
use Rattle.std.specs.Option.{option_map_or}
use Rattle.std.specs.Str.{bytes_eq, trim}
use Rattle.std.specs.Str.Parse.{without_leading_sign, signed_digits_value}
use Rattle.std.specs.List.{list_any, position_or_len}
use Rattle.html_render_dom_values.specs.declared.white_space.WhiteSpace.{WhiteSpace}
use Rattle.html_render_dom_values.specs.declared.white_space.WhiteSpace.TheVariants.{Normal, Pre}
use Rattle.html_render_dom_styles.specs.declared.origins.StyleOrigin.TheVariants.{Agent}
use Rattle.html_render_dom_styles.specs.declared.updates.Update.{Update}
use Rattle.html_render_dom_styles.specs.Cascade.{value_of, winner}
use Rattle.html_render_dom_nodes.specs.Content.{Name, Property, Space, html, svg, Content, is_html}
use Rattle.html_render_dom.specs.declared.style.computed.ComputedStyle.{ComputedStyle}
use Rattle.html_render_dom.specs.ElementStyle.{element_style}
use Rattle.html_render_dom_values.specs.Forest.{Forest}
use Rattle.html_render_dom_styles.specs.Rules.{Rule as StyleRule}
use Rattle.html_render_dom.specs.Attributes.{first_value}
use Rattle.html_render_dom_styles.specs.Selectors.{is_filled}
use Rattle.html_render_dom_styles.specs.Specificities.{no_specificity}
use Rattle.html_render_layout_nodes.specs.declared.tree.Emphasis.TheVariants.{Em, Strong, Code}
use Rattle.html_render_layout_nodes.specs.declared.tree.NodeKind.TheVariants.{Text, Container, Break, Block, Div, Emphasis, Header, BlockQuote, Ul, Ol}
use Rattle.html_render_layout_nodes.specs.declared.tree.NodeKind.TheVariants.{ListItem, Dl, Dt, Dd, Strikeout, Superscript, Link, Image, Svg}
use Rattle.html_render_layout_nodes.specs.declared.tree.NodeStyle.{NodeStyle}
use Rattle.html_render_tree_convert.specs.declared.mapping.ElementKind.TheVariants.{Node, Part}
use Rattle.html_render_tree_convert.specs.declared.mapping.IfEmpty.{IfEmpty}
use Rattle.html_render_tree_convert.specs.declared.mapping.IfEmpty.TheVariants.{Stands, Vanishes}
use Rattle.html_render_tree_convert.specs.declared.mapping.Mapping.{Mapping}
use Rattle.html_render_tree_convert.specs.declared.mapping.Mapping.TheVariants.{Nothing, Leaf, Parent}
use Rattle.html_render_tree_convert.specs.declared.tables.Part.TheVariants as part
use Rattle.html_render_tree_convert.specs.Images.{image_parts, drawing_title}
use Rattle.html_render_tree_convert.specs.Tables.{numeral_of, span_of}

abbrev pub is_one_of : List ℕ → List (List ℕ) → Bool
is_one_of name names = list_any (bytes_eq name) names

-- the number from -2 ^ 63 up to 2 ^ 63 - 1 that a text is: a sign or none, and then digits alone, one or more
abbrev pub number_of : List ℕ → Option ℤ
number_of written =
    let number = signed_digits_value 10 written in
    numeral_of (without_leading_sign written) number (int_le (neg_ℤ (pos (2 ^ 63))) number && int_lt number (pos (2 ^ 63)))

-- the number of an ordered list's first item: that of its first attribute `start`, and 1 without such a number
abbrev pub start_of : List Property → ℤ
start_of properties = unwrap_or (option_and_then number_of (first_value (codes "start") properties)) (pos 1)

-- the names of headings, by their levels
abbrev pub headings : List (List ℕ)
headings = codes "h1" ∷ codes "h2" ∷ codes "h3" ∷ codes "h4" ∷ codes "h5" ∷ codes "h6" ∷ []

-- what becomes of an element of HTML whose node holds no text, by its name and its attributes
abbrev pub html_mapping : (name : List ℕ) → List Property → Mapping
html_mapping name properties =
    if bytes_eq name (codes "p") then Parent (Node Block) Vanishes
    else if bytes_eq name (codes "pre") then Parent (Node Block) Stands
    else if bytes_eq name (codes "li") then Parent (Node ListItem) Stands
    else if is_one_of name (codes "em" ∷ codes "i" ∷ codes "ins" ∷ []) then Parent (Node (Emphasis Em)) Stands
    else if is_one_of name (codes "strong" ∷ codes "b" ∷ []) then Parent (Node (Emphasis Strong)) Stands
    else if bytes_eq name (codes "code") then Parent (Node (Emphasis Code)) Stands
    else if bytes_eq name (codes "br") then Leaf Break
    else if bytes_eq name (codes "div") then Parent (Node Div) Vanishes
    else if bytes_eq name (codes "ul") then Parent (Node Ul) Vanishes
    else if bytes_eq name (codes "ol") then Parent (Node (Ol (start_of properties))) Vanishes
    else if is_one_of name headings then Parent (Node (Header (position_or_len (bytes_eq name) headings + 1))) Stands
    else if bytes_eq name (codes "blockquote") then Parent (Node BlockQuote) Vanishes
    else if is_one_of name (codes "s" ∷ codes "del" ∷ []) then Parent (Node Strikeout) Stands
    else if bytes_eq name (codes "sup") then Parent (Node Superscript) Stands
    else if bytes_eq name (codes "dl") then Parent (Node Dl) Vanishes
    else if bytes_eq name (codes "dt") then Parent (Node Dt) Stands
    else if bytes_eq name (codes "dd") then Parent (Node Dd) Stands
    else if bytes_eq name (codes "table") then Parent (Part part.Table) Vanishes
    else if is_one_of name (codes "thead" ∷ codes "tbody" ∷ codes "tfoot" ∷ []) then Parent (Part part.Body) Vanishes
    else if bytes_eq name (codes "tr") then Parent (Part part.Row) Stands
    else if is_one_of name (codes "td" ∷ codes "th" ∷ []) then Parent (Part (part.Cell (span_of properties))) Stands
    else if bytes_eq name (codes "caption") then Parent (Part part.Caption) Vanishes
    else if is_one_of name (codes "html" ∷ codes "body" ∷ []) then Parent (Node Container) Stands
    else if is_one_of name (codes "head" ∷ codes "link" ∷ codes "meta" ∷ codes "hr" ∷ codes "script" ∷ codes "style" ∷ []) then Nothing
    else Parent (Node Container) Vanishes

-- what becomes of an element of a namespace, over the trees below it. An `a` with an attribute `href` is a link to the first one, an
-- `img` without a source is nothing, and a `wbr` is U+200B in UTF-8, which takes no columns and between whose neighbours a line may
-- end. Outside HTML no name but `svg` is special
abbrev pub element_mapping : Space → (name : List ℕ) → List Property → (below : Forest Content) → Mapping
element_mapping html name properties below =
    if bytes_eq name (codes "a") then option_map_or (λ t. Parent (Node (Link t)) Vanishes) (first_value (codes "href") properties) (Parent (Node Container) Stands)
    else if bytes_eq name (codes "img") then (let image = image_parts properties in if is_filled image.source then Leaf (Image image) else Nothing)
    else if bytes_eq name (codes "wbr") then Leaf (Text (226 ∷ 128 ∷ 139 ∷ []))
    else html_mapping name properties
element_mapping svg name properties below = if bytes_eq name (codes "svg") then Leaf (Svg (drawing_title below)) else Parent (Node Container) Vanishes
element_mapping _ name properties below = Parent (Node Container) Vanishes

-- the update of white space that follows those of all rules where an element is preformatted
abbrev pub last_white_space : Update WhiteSpace
last_white_space = record { important = false; origin = Agent; specificity = no_specificity; value = Pre }

-- a style with that update
abbrev pub preformatted_style : ComputedStyle → ComputedStyle
preformatted_style style = record style { white_space = winner (option_to_list style.white_space ++ last_white_space ∷ []); internal_pre = true }

-- the style of an element: what the rules give it, and what `pre` of HTML gives itself, whose text is preformatted
abbrev pub own_style : List StyleRule → Name → List Property → ComputedStyle
own_style rules name properties =
    let style = element_style rules name.local properties in
    if is_html name.space && bytes_eq name.local (codes "pre") then preformatted_style style else style

-- what an element's style gives the node that it becomes; white space is Normal where nothing else is declared
abbrev pub node_style : ComputedStyle → NodeStyle
node_style style = record {
  colour = value_of style.colour;
  background = value_of style.bg_colour;
  white_space = unwrap_or (value_of style.white_space) Normal;
  preformatted = style.internal_pre;
}

-- whether nothing but white space is in a text
abbrev pub is_blank : List ℕ → Bool
is_blank contents = not (is_filled (trim contents))

-- whether an element becomes nothing, whose children have results that count or none
abbrev pub vanishes : IfEmpty → (has_results : Bool) → Bool
vanishes Stands has_results = false
vanishes Vanishes has_results = not has_results
