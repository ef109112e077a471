-- The document after each call that appends a node, the conditions of these calls, and the outcome of a call that changes a document.
use Rattle.std.specs.Prelude.{◌≡◌, ℕ, ◌≤◌, false, List, [], None, Result, IfOk, OnOk, OnErr, string_bytes}
use Rattle.html_render_dom_values.specs.declared.errors.Error.{Error}
use Rattle.html_render_dom_values.specs.Outcome.{OnlyOutOfMemory}
use Rattle.html_render_dom_nodes.specs.declared.contents.NodeOrText.{NodeOrText}
use Rattle.html_render_dom_nodes.specs.declared.contents.NodeOrText.TheVariants.{AppendNode, AppendText}
use Rattle.html_render_dom.specs.Dom.{Dom, IsNode, node_count, parent_at, IsInclusiveAncestor}
use Rattle.html_render_dom_nodes.specs.Content.{Name, html, element}
use Rattle.html_render_dom_nodes.specs.Edits.{attached, attached_new, last_text, text_put}

-- outcome of a call that makes `wanted` of the document `old`: on an error `old` is unchanged; no node is removed
pub record Edits {X : Type 0} (result : Result X Error) (old wanted new : Dom) : Type 0 where
  pub ok : OnOk result (new ≡ wanted)
  pub unchanged : OnErr result (new ≡ old)
  pub err : OnlyOutOfMemory result
  pub grows : node_count old ≤ node_count new

-- outcome of an edit that creates a node, which has the next number
pub record Creates (result : Result ℕ Error) (old wanted new : Dom) : Type 0 where
  pub number : IfOk result (λ made. made ≡ node_count old)
  pub edit : Edits result old wanted new

-- the document with a text joined to the last child of the parent, if that is a text node, or else in a new text node
abbrev pub text_appended : Dom → (parent : ℕ) → List ℕ → Dom
text_appended dom parent more = record dom { nodes = text_put dom.nodes parent (last_text dom.nodes parent) more }

abbrev pub appended : Dom → (parent : ℕ) → NodeOrText → Dom
appended dom parent (AppendNode child) = record dom { nodes = attached dom.nodes parent child }
appended dom parent (AppendText more) = text_appended dom parent (string_bytes more)

-- the document with a new element without attributes, the last child of the parent
abbrev pub element_appended : Dom → (parent : ℕ) → Name → Dom
element_appended dom parent name = record dom { nodes = attached_new dom.nodes (element name [] None false) parent }

-- the name of an HTML element
abbrev pub html_name : List ℕ → Name
html_name local = record { space = html; local = local }

-- whether new has node h, which has no parent and isn't an inclusive ancestor of a node of old
pub record IsFresh (old new : Dom) (h : ℕ) : Type 0 where
  pub is_node : IsNode new h
  pub no_parent : parent_at new h ≡ None
  pub above_none : (k : ℕ) → IsNode old k → IsInclusiveAncestor new h k → ⊥

-- the condition of `append`: a node has no parent, and isn't an inclusive ancestor of the new one; a text has no condition
abbrev pub CanAppend : Dom → (parent : ℕ) → NodeOrText → Type 0
CanAppend dom parent (AppendNode child) = IsNode dom child × (parent_at dom child ≡ None) × ¬ IsInclusiveAncestor dom child parent
CanAppend dom parent (AppendText more) = Unit {0}
