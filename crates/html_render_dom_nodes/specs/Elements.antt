-- The parts of an element's content.
use Rattle.std.specs.Prelude.{ℕ, Bool, false, ◌++◌, List, Option, Some, None, not, filter}
use Rattle.std.specs.List.{list_any}
use Rattle.html_render_dom_nodes.specs.Content.{Content, Name, Property, document, doctype, text, comment, element, instruction}
use Rattle.html_render_dom_nodes.specs.Names.{name_eq}

-- the name of an element
abbrev pub name_in : Content → Option Name
name_in document = None
name_in (doctype name public_id system_id) = None
name_in (text contents) = None
name_in (comment contents) = None
name_in (element name properties template_contents integration_point) = Some name
name_in (instruction target contents) = None

-- the local name of an element
abbrev pub local_name_in : Content → Option (List ℕ)
local_name_in document = None
local_name_in (doctype name public_id system_id) = None
local_name_in (text contents) = None
local_name_in (comment contents) = None
local_name_in (element name properties template_contents integration_point) = Some name.local
local_name_in (instruction target contents) = None

-- the node with the contents of a template
abbrev pub contents_in : Content → Option ℕ
contents_in document = None
contents_in (doctype name public_id system_id) = None
contents_in (text contents) = None
contents_in (comment contents) = None
contents_in (element name properties template_contents integration_point) = template_contents
contents_in (instruction target contents) = None

-- whether a content is that of an HTML integration point of MathML's `annotation-xml`
abbrev pub is_integration_point : Content → Bool
is_integration_point document = false
is_integration_point (doctype name public_id system_id) = false
is_integration_point (text contents) = false
is_integration_point (comment contents) = false
is_integration_point (element name properties template_contents integration_point) = integration_point
is_integration_point (instruction target contents) = false

-- whether one of the attributes has the name
abbrev pub has_name : List Property → Name → Bool
has_name properties name = list_any (λ p. name_eq p.name name) properties

-- the attributes, then those of the given ones with a name that none of them has
abbrev pub with_missing : List Property → List Property → List Property
with_missing properties given = properties ++ filter (λ p. not (has_name properties p.name)) given

-- the content of an element with the given attributes that it lacks; any other content unchanged
abbrev pub completed : Content → List Property → Content
completed document given = document
completed (doctype name public_id system_id) given = doctype name public_id system_id
completed (text contents) given = text contents
completed (comment contents) given = comment contents
completed (element name properties template_contents integration_point) given =
    element name (with_missing properties given) template_contents integration_point
completed (instruction target contents) given = instruction target contents
