-- The document object model (DOM): numbered nodes, each with its content, its list of children and its parent. No node is
-- its own ancestor, so each node is the root of a finite tree.
use Rattle.std.specs.Prelude.{◌≡◌, ℕ, zero, suc, ◌<◌, Bool, true, false, IsTrue, nat_eq, List, [], ◌∷◌, length, Option, Some, Contains}
use Rattle.std.specs.List.{IsDistinct}
use Rattle.html_render_dom.specs.declared.dom.settings.QuirksMode.{QuirksMode}
use Rattle.html_render_dom.specs.declared.dom.settings.QuirksMode.TheVariants.{NoQuirks}
use Rattle.html_render_dom_nodes.specs.Content.{Content, document, element}
use Rattle.html_render_dom_nodes.specs.Nodes.{Node, lone, node_in}
use Rattle.html_render_dom_nodes.specs.Elements.{contents_in}
use Rattle.html_render_dom_values.specs.Forest.{Forest, none, node}

-- a document: its nodes by number, the messages of parse errors, and the quirks mode
pub record Dom : Type 0 where
  pub nodes : List Node
  pub messages : List (List ℕ)
  pub mode : QuirksMode

abbrev pub node_count : Dom → ℕ
node_count dom = length dom.nodes

abbrev pub IsNode : Dom → ℕ → Type 0
IsNode dom h = h < node_count dom

abbrev pub content_at : Dom → ℕ → Content
content_at dom h = (node_in dom.nodes h).content

abbrev pub children_at : Dom → ℕ → List ℕ
children_at dom h = (node_in dom.nodes h).children

abbrev pub parent_at : Dom → ℕ → Option ℕ
parent_at dom h = (node_in dom.nodes h).parent

-- a new document: node 0 alone, without messages, in no-quirks mode
abbrev pub empty_dom : Dom
empty_dom = record { nodes = lone document ∷ []; messages = []; mode = NoQuirks }

-- whether a content is that of an element
abbrev pub is_element : Content → Bool
is_element (element name properties template_contents integration_point) = true
is_element _ = false

abbrev pub IsElement : Content → Type 0
IsElement c = IsTrue (is_element c)

-- whether a is an inclusive ancestor of h: h itself, or an ancestor of h
pub data IsInclusiveAncestor (dom : Dom) (a : ℕ) : ℕ → Type 0 where
  itself : IsInclusiveAncestor dom a a
  above : {h : ℕ} (p : ℕ) → parent_at dom h ≡ Some p → IsInclusiveAncestor dom a p → IsInclusiveAncestor dom a h

-- whether the nodes hs are the roots of the trees of a forest: each has the content of its tree's root, and its children are
-- the roots of the subtrees
abbrev pub HaveTrees : Dom → List ℕ → Forest Content → Type 0
HaveTrees dom [] none = Unit {0}
HaveTrees dom [] (node c kids beside) = ⊥
HaveTrees dom (h ∷ hs) none = ⊥
HaveTrees dom (h ∷ hs) (node c kids beside) = IsNode dom h × (content_at dom h ≡ c) × HaveTrees dom (children_at dom h) kids × HaveTrees dom hs beside

-- The invariant of a document:
-- * node 0 is the document;
-- * lists of children and parents agree, and a list has a child once;
-- * the contents of a template are a node;
-- * each node is the root of a finite tree.
pub record IsForest (dom : Dom) : Type 0 where
  pub has_document : IsNode dom 0
  pub document_content : content_at dom 0 ≡ document
  pub child_is_node : (p c : ℕ) → Contains (children_at dom p) c → IsNode dom c
  pub child_names_parent : (p c : ℕ) → Contains (children_at dom p) c → parent_at dom c ≡ Some p
  pub parent_lists_child : (p c : ℕ) → parent_at dom c ≡ Some p → Contains (children_at dom p) c
  pub once : (p : ℕ) → IsDistinct nat_eq (children_at dom p)
  pub template_contents_is_node : (h c : ℕ) → contents_in (content_at dom h) ≡ Some c → IsNode dom c
  pub finite : (h : ℕ) → IsNode dom h → (t : Forest Content) × HaveTrees dom (h ∷ []) t

-- the trees with the roots hs, where f h is the forest below the root h
abbrev pub beside_each : Dom → (ℕ → Forest Content) → List ℕ → Forest Content
beside_each dom f [] = none
beside_each dom f (h ∷ hs) = node (content_at dom h) (f h) (beside_each dom f hs)

-- the forest below a node, down to n levels
abbrev pub below : ℕ → Dom → ℕ → Forest Content
below zero dom h = none
below (suc n) dom h = beside_each dom (below n dom) (children_at dom h)

-- the trees with the roots hs; their depth is at most the number of nodes
abbrev pub trees_of : Dom → List ℕ → Forest Content
trees_of dom hs = beside_each dom (below (node_count dom) dom) hs

-- the tree with the root h
abbrev pub tree_of : Dom → ℕ → Forest Content
tree_of dom h = node (content_at dom h) (below (node_count dom) dom h) none
