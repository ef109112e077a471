-- The nodes after each edit of a node or of a list of children.
use Rattle.std.specs.Prelude.{ℕ, ◌+◌, ◌-◌, Bool, true, false, if◌then◌else◌, List, [], ◌∷◌, ◌++◌, length, slice_get, slice_set}
use Rattle.std.specs.Prelude.{Option, Some, None}
use Rattle.html_render_dom_nodes.specs.declared.flags.ElementFlags.{ElementFlags}
use Rattle.html_render_dom_nodes.specs.Content.{Content, Name, Property, document, doctype, text, comment, element, instruction}
use Rattle.html_render_dom_nodes.specs.Nodes.{Node, lone, node_in}

abbrev pub with_content : List Node → ℕ → Content → List Node
with_content nodes h c = slice_set nodes h (record (node_in nodes h) { content = c })

abbrev pub with_children : List Node → ℕ → List ℕ → List Node
with_children nodes h cs = slice_set nodes h (record (node_in nodes h) { children = cs })

abbrev pub with_parent : List Node → ℕ → Option ℕ → List Node
with_parent nodes h p = slice_set nodes h (record (node_in nodes h) { parent = p })

-- the nodes with the child appended to the parent's list, and that parent set
abbrev pub attached : List Node → (parent child : ℕ) → List Node
attached nodes parent child = with_parent (with_children nodes parent ((node_in nodes parent).children ++ child ∷ [])) child (Some parent)

-- the nodes with a new node at the end, which has the next number, no parent and no children
abbrev pub created : List Node → Content → List Node
created nodes c = nodes ++ lone c ∷ []

-- the nodes with a new node, which is the parent's last child
abbrev pub attached_new : List Node → Content → (parent : ℕ) → List Node
attached_new nodes c parent = attached (created nodes c) parent (length nodes)

abbrev pub is_text : Content → Bool
is_text document = false
is_text (doctype name public_id system_id) = false
is_text (text contents) = true
is_text (comment contents) = false
is_text (element name properties template_contents integration_point) = false
is_text (instruction target contents) = false

-- the content of a text node with more text at its end; any other content unchanged
abbrev pub joined : Content → List ℕ → Content
joined document more = document
joined (doctype name public_id system_id) more = doctype name public_id system_id
joined (text contents) more = text (contents ++ more)
joined (comment contents) more = comment contents
joined (element name properties template_contents integration_point) more = element name properties template_contents integration_point
joined (instruction target contents) more = instruction target contents

-- a node if it is a text node, otherwise none
abbrev pub text_node : List Node → Option ℕ → Option ℕ
text_node nodes None = None
text_node nodes (Some h) = if is_text (node_in nodes h).content then Some h else None

-- the last child of the parent if it is a text node, otherwise none
abbrev pub last_text : List Node → (parent : ℕ) → Option ℕ
last_text nodes parent =
    let children = (node_in nodes parent).children in
    text_node nodes (slice_get children (length children - 1))

-- the nodes with a text joined to the text node `before`, or without one in a new text node, the parent's last child
abbrev pub text_put : List Node → (parent : ℕ) → (before : Option ℕ) → List ℕ → List Node
text_put nodes parent (Some before) more = with_content nodes before (joined (node_in nodes before).content more)
text_put nodes parent None more = attached_new nodes (text more) parent

-- the nodes with a new element, which has the next number; a template's contents, a document, have the number after it
abbrev pub element_created : List Node → Name → List Property → ElementFlags → List Node
element_created nodes name properties flags =
    let point = flags.mathml_annotation_xml_integration_point in
    if flags.template then created (created nodes (element name properties (Some (length nodes + 1)) point)) document
    else created nodes (element name properties None point)
