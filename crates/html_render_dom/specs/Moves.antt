-- The document after each call that inserts a node or a text before another node, and the conditions of these calls.
use Rattle.std.specs.Prelude.{ℕ, Option, Some, None, string_bytes}
use Rattle.html_render_dom_nodes.specs.declared.contents.NodeOrText.{NodeOrText}
use Rattle.html_render_dom_nodes.specs.declared.contents.NodeOrText.TheVariants.{AppendNode, AppendText}
use Rattle.html_render_dom.specs.Dom.{Dom, IsNode, parent_at, IsInclusiveAncestor}
use Rattle.html_render_dom.specs.Edits.{appended, CanAppend}
use Rattle.html_render_dom_nodes.specs.Moves.{inserted_before, taken_out, text_before, text_placed}

-- the condition of `append_before_sibling`: a node isn't an inclusive ancestor of the sibling; a text has no condition
abbrev pub CanAppendBefore : Dom → (sibling : ℕ) → NodeOrText → Type 0
CanAppendBefore dom sibling (AppendNode child) = IsNode dom child × ¬ IsInclusiveAncestor dom child sibling
CanAppendBefore dom sibling (AppendText more) = Unit {0}

-- the document with a node or a text directly before the sibling in the parent's list; unchanged without a parent
abbrev pub put_before : Dom → (parent : Option ℕ) → (sibling : ℕ) → NodeOrText → Dom
put_before dom None sibling child = dom
put_before dom (Some parent) sibling (AppendNode child) =
    record dom { nodes = inserted_before (taken_out dom.nodes (parent_at dom child) child) parent sibling child }
put_before dom (Some parent) sibling (AppendText more) =
    record dom { nodes = text_placed dom.nodes parent sibling (text_before dom.nodes parent sibling) (string_bytes more) }

-- the document with a node or a text directly before the sibling, in the list that has the sibling
abbrev pub appended_before : Dom → (sibling : ℕ) → NodeOrText → Dom
appended_before dom sibling child = put_before dom (parent_at dom sibling) sibling child

-- the condition of `append_based_on_parent_node`: that of `append_before_sibling` if the element has a parent, otherwise
-- that of `append` to the other node
abbrev pub CanPutByParent : Dom → (parent : Option ℕ) → (element last : ℕ) → NodeOrText → Type 0
CanPutByParent dom None element last child = IsNode dom last × CanAppend dom last child
CanPutByParent dom (Some parent) element last child = CanAppendBefore dom element child

abbrev pub put_by_parent : Dom → (parent : Option ℕ) → (element last : ℕ) → NodeOrText → Dom
put_by_parent dom None element last child = appended dom last child
put_by_parent dom (Some parent) element last child = appended_before dom element child
