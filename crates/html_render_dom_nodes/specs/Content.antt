-- The contents of nodes, with each text as its list of bytes.
use Rattle.std.specs.Prelude.{ℕ, Bool, true, false, List, Option, map, string_bytes}
use Rattle.html_render_dom_nodes.specs.declared.names.Namespace.{Namespace}
use Rattle.html_render_dom_nodes.specs.declared.names.Namespace.TheVariants.{None, Html, Svg, MathMl, Other}
use Rattle.html_render_dom_nodes.specs.declared.names.QualName.{QualName}
use Rattle.html_render_dom_nodes.specs.declared.names.Attribute.{Attribute}
use Rattle.html_render_dom_nodes.specs.declared.contents.NodeData.{NodeData}
use Rattle.html_render_dom_nodes.specs.declared.contents.NodeData.TheVariants.{Document, Doctype, Text, Comment, Element, ProcessingInstruction}

-- a namespace; other ones by their address
pub data Space : Type 0 where
  no_space html svg mathml : Space
  other : List ℕ → Space

-- a qualified name: a namespace and a local name
pub record Name : Type 0 where
  pub space : Space
  pub local : List ℕ

-- an attribute: a name and a value
pub record Property : Type 0 where
  pub name : Name
  pub value : List ℕ

-- the content of a node, without its children and its parent
pub data Content : Type 0 where
  document : Content
  doctype : (name public_id system_id : List ℕ) → Content
  text : (contents : List ℕ) → Content
  comment : (contents : List ℕ) → Content
  element : (name : Name) (properties : List Property) (template_contents : Option ℕ) (integration_point : Bool) → Content
  instruction : (target contents : List ℕ) → Content

abbrev pub space_of : Namespace → Space
space_of None = no_space
space_of Html = html
space_of Svg = svg
space_of MathMl = mathml
space_of (Other address) = other (string_bytes address.value)

abbrev pub is_html : Space → Bool
is_html html = true
is_html _ = false

abbrev pub name_of : QualName → Name
name_of n = record { space = space_of n.ns; local = n.local }

abbrev pub property_of : Attribute → Property
property_of a = record { name = name_of a.name; value = a.value }

abbrev pub content_of : NodeData → Content
content_of Document = document
content_of (Doctype parts) =
    doctype (string_bytes parts.value.name) (string_bytes parts.value.public_id) (string_bytes parts.value.system_id)
content_of (Text contents) = text contents
content_of (Comment contents) = comment (string_bytes contents)
content_of (Element integration_point name attrs template_contents) =
    element (name_of name) (map property_of attrs) template_contents integration_point
content_of (ProcessingInstruction target contents) = instruction (string_bytes target) (string_bytes contents)
