-- What becomes of a node of a document, its children aside.
use Rattle.std.specs.Prelude.{ℕ, true, false, List, [], Option, None, is_some, option_map, option_to_list, if◌then◌else◌}
use Rattle.std.specs.Option.{option_map_or}
use Rattle.html_render_dom_values.specs.Forest.{Forest}
use Rattle.html_render_dom_styles.specs.Cascade.{value_of}
use Rattle.html_render_dom_styles.specs.Rules.{Rule as StyleRule}
use Rattle.html_render_dom_nodes.specs.Content.{Content, document, text, element}
use Rattle.html_render_dom.specs.Dom.{Dom, content_at, children_at, trees_of}
use Rattle.html_render_dom.specs.declared.style.computed.ComputedStyle.{ComputedStyle}
use Rattle.html_render_dom.specs.ElementStyle.{element_style}
use Rattle.html_render_layout_nodes.specs.RenderNodes.{without_style}
use Rattle.html_render_layout_nodes.specs.declared.tree.NodeKind.{NodeKind}
use Rattle.html_render_layout_nodes.specs.declared.tree.NodeKind.TheVariants.{Text, Container, FragmentStart}
use Rattle.html_render_layout_nodes.specs.declared.tree.RenderNode.{RenderNode}
use Rattle.html_render_tree_convert.specs.Conversion.{element_mapping, own_style, node_style}
use Rattle.html_render_tree_convert.specs.Marks.{mark_of}
use Rattle.html_render_tree_convert.specs.declared.mapping.ElementKind.{ElementKind}
use Rattle.html_render_tree_convert.specs.declared.mapping.ElementKind.TheVariants.{Node}
use Rattle.html_render_tree_convert.specs.declared.mapping.IfEmpty.{IfEmpty}
use Rattle.html_render_tree_convert.specs.declared.mapping.IfEmpty.TheVariants.{Stands}
use Rattle.html_render_tree_convert.specs.declared.mapping.Mapping.{Mapping}
use Rattle.html_render_tree_convert.specs.declared.mapping.Mapping.TheVariants as mapping
use Rattle.html_render_tree_convert.specs.declared.plans.Element.{Element}
use Rattle.html_render_tree_convert.specs.declared.plans.ElementTexts.{ElementTexts}
use Rattle.html_render_tree_convert.specs.declared.plans.Plan.{Plan}
use Rattle.html_render_tree_convert.specs.declared.plans.Plan.TheVariants.{Nothing, Alone, Over}

-- texts that an element inserts under its style
abbrev pub texts_of : (mark : Option (List ℕ)) → ComputedStyle → ElementTexts
texts_of mark style = record { mark = mark; before = value_of style.content_before; after = value_of style.content_after }

-- element of a kind under its style
abbrev pub element_of : ElementKind → IfEmpty → (mark : Option (List ℕ)) → ComputedStyle → Element
element_of kind if_empty mark style = record { kind = kind; style = node_style style; if_empty = if_empty; texts = texts_of mark style }

-- plan of an element that is displayed; its mark alone if its children aren't converted
abbrev pub displayed_plan : Mapping → (mark : Option (List ℕ)) → ComputedStyle → Plan
displayed_plan mapping.Nothing mark style = option_map_or (λ name. Alone (without_style (FragmentStart name))) mark Nothing
displayed_plan (mapping.Leaf kind) mark style = Over (element_of (Node kind) Stands mark style) false
displayed_plan (mapping.Parent kind if_empty) mark style = Over (element_of kind if_empty mark style) true

abbrev pub element_plan : Mapping → (mark : Option (List ℕ)) → ComputedStyle → Plan
element_plan m mark style = if is_some style.display then Nothing else displayed_plan m mark style

-- PLAN of a node over its children; the document is a container without a style
abbrev pub plan_of : List StyleRule → Content → (children : Forest Content) → Plan
plan_of rules document children = Over (element_of (Node Container) Stands None (element_style [] [] [])) true
plan_of rules (text contents) children = Alone (without_style (Text contents))
plan_of rules (element name properties template_contents integration_point) children =
    element_plan (element_mapping name.space name.local properties children) (mark_of name properties) (own_style rules name properties)
plan_of rules content children = Nothing

-- plan of a node of a DOM
abbrev pub plan_at : List StyleRule → Dom → (node : ℕ) → Plan
plan_at rules dom h = plan_of rules (content_at dom h) (trees_of dom (children_at dom h))

-- a text as a node of a kind, if there is one
abbrev pub text_nodes : (kind : List ℕ → NodeKind) → Option (List ℕ) → List RenderNode
text_nodes kind contents = option_to_list (option_map (λ c. without_style (kind c)) contents)
