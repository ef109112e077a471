-- Elements whose plan is known by their names.
use Rattle.std.specs.Prelude.{ℕ, ◌&&◌, Bool, List, [], None, Option, codes}
use Rattle.std.specs.Borrow.{Bor}
use Rattle.std.specs.Option.{option_map_or}
use Rattle.std.specs.Str.{bytes_eq}
use Rattle.html_render_dom_values.specs.Forest.{none}
use Rattle.html_render_dom_nodes.specs.Content.{Name, Property, html, is_html}
use Rattle.html_render_dom_styles.specs.Rules.{Rule as StyleRule}
use Rattle.html_render_dom.specs.Applying.{style_by}
use Rattle.html_render_dom.specs.declared.style.computed.ComputedStyle.{ComputedStyle}
use Rattle.html_render_layout_nodes.specs.RenderNodes.{no_style}
use Rattle.html_render_layout_nodes.specs.declared.tree.NodeKind.TheVariants.{Container}
use Rattle.html_render_tree_convert.specs.Conversion.{element_mapping, own_style}
use Rattle.html_render_tree_convert.specs.ElementTexts.{no_texts}
use Rattle.html_render_tree_convert.specs.Plans.{displayed_plan, element_of, element_plan}
use Rattle.html_render_tree_convert.specs.declared.mapping.ElementKind.TheVariants.{Node, Part}
use Rattle.html_render_tree_convert.specs.declared.mapping.IfEmpty.TheVariants.{Stands}
use Rattle.html_render_tree_convert.specs.declared.mapping.Mapping.{Mapping}
use Rattle.html_render_tree_convert.specs.declared.plans.Element.{Element}
use Rattle.html_render_tree_convert.specs.declared.plans.KnownElement.{KnownElement}
use Rattle.html_render_tree_convert.specs.declared.plans.Plan.{Plan}
use Rattle.html_render_tree_convert.specs.declared.tables.Part.TheVariants as part

-- whether an element is a `pre` of HTML, whose text is preformatted
abbrev pub is_preformatted : Name → Bool
is_preformatted name = is_html name.space && bytes_eq name.local (codes "pre")

-- what becomes of an element of HTML, whatever is below it
abbrev pub html_element_mapping : (name : List ℕ) → List Property → Mapping
html_element_mapping name properties = element_mapping html name properties none

-- the document's node
abbrev pub document_element : Element
document_element = record { kind = Node Container; style = no_style; if_empty = Stands; texts = no_texts }

-- a style; the style without any declaration where there is none
abbrev pub known_style : Option (Bor ComputedStyle) → ComputedStyle
known_style style = option_map_or (λ s. s.now) style (style_by [])

-- an element without a mark
abbrev pub known_element : KnownElement → Element
known_element known = element_of known.kind known.if_empty None (known_style known.style)

-- plan of an element of a mapping that has no mark, and the style without any declaration
abbrev pub plain_plan : Mapping → Plan
plain_plan mapping = displayed_plan mapping None (style_by [])

-- plan of an element of HTML without attributes, by its local name
abbrev pub named_plan : List StyleRule → (name : List ℕ) → Plan
named_plan rules name = element_plan (html_element_mapping name []) None (own_style rules (record { space = html; local = name }) [])

-- a cell of one column and one row, without a mark and a style
abbrev pub plain_cell : Element
plain_cell = record { kind = Part (part.Cell (record { colspan = 1; rowspan = 1 })); style = no_style; if_empty = Stands; texts = no_texts }
