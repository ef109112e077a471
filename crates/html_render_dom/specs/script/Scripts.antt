-- THE DOCUMENT that a script builds: the calls of its lines change a document one after another, from the document node
-- alone.
use Rattle.std.specs.Prelude.{◌≡◌, ℕ, ◌+◌, if◌then◌else◌, List, [], ◌∷◌, Option, Some, None, ok_or, option_and_then, option_map, Result, Ok, Err}
use Rattle.std.specs.Str.Lines.{lines}
use Rattle.html_render_dom_values.specs.declared.errors.Error.TheVariants.{OutOfMemory}
use Rattle.html_render_dom_nodes.specs.Content.{no_space, comment}
use Rattle.html_render_dom_nodes.specs.Edits.{attached_new, with_content}
use Rattle.html_render_dom_nodes.specs.Elements.{completed}
use Rattle.html_render_dom.specs.Dom.{Dom, content_at, empty_dom, is_element, node_count, parent_at}
use Rattle.html_render_dom.specs.Edits.{element_appended, text_appended}
use Rattle.html_render_dom.specs.script.Commands.{Command, do_nothing, append_text, append_comment, open_element, close_element, give_attribute, command_of}
use Rattle.html_render_dom.specs.declared.script.building.ScriptError.{ScriptError}
use Rattle.html_render_dom.specs.declared.script.building.ScriptError.TheVariants.{Refused, FaultyLine}

-- document, and its current node
pub record Cursor : Type 0 where
  pub dom : Dom
  pub current : ℕ

-- document node alone, which is current
abbrev pub at_document : Cursor
at_document = record { dom = empty_dom; current = 0 }

-- document with a new comment, the last child of its parent
abbrev pub with_comment : Dom → (parent : ℕ) → (contents : List ℕ) → Dom
with_comment dom parent contents = record dom { nodes = attached_new dom.nodes (comment contents) parent }

-- document after an element is given an attribute in no namespace, unless it has one of that name
abbrev pub with_attribute : Dom → (h : ℕ) → (name value : List ℕ) → Dom
with_attribute dom h name value =
    let given = record { name = record { space = no_space; local = name }; value = value } ∷ [] in
    record dom { nodes = with_content dom.nodes h (completed (content_at dom h) given) }

-- document and current node after a command; none for an attribute of no element, and for the end of the document
abbrev pub taken : Cursor → Command → Option Cursor
taken at do_nothing = Some at
taken at (append_text contents) = Some (record at { dom = text_appended at.dom at.current contents })
taken at (append_comment contents) = Some (record at { dom = with_comment at.dom at.current contents })
taken at (open_element name) = Some (record { dom = element_appended at.dom at.current name; current = node_count at.dom })
taken at close_element = option_map (λ parent. record at { current = parent }) (parent_at at.dom at.current)
taken at (give_attribute name value) =
    if is_element (content_at at.dom at.current) then Some (record at { dom = with_attribute at.dom at.current name value })
    else None

-- document and current node after a line; none if the line is faulty
abbrev pub line_taken : Cursor → (line : List ℕ) → Option Cursor
line_taken at line = option_and_then (taken at) (command_of line)

abbrev pub result_and_then : {A B E : Type 0} → (A → Result B E) → Result A E → Result B E
result_and_then f (Ok a) = f a
result_and_then f (Err e) = Err e

-- document after these lines, of which the first has this number, or the number of the first faulty line
abbrev pub outcome_of : (lines : List (List ℕ)) → (number : ℕ) → Cursor → Result Dom ℕ
outcome_of [] number at = Ok at.dom
outcome_of (line ∷ rest) number at = result_and_then (outcome_of rest (number + 1)) (ok_or (line_taken at line) number)

-- document that a script builds, or the number of its first faulty line, from 1
abbrev pub document_of : (script : List ℕ) → Result Dom ℕ
document_of script = outcome_of (lines script) 1 at_document

-- whether this is a reason for a script without a document: out of memory, or its first faulty line
abbrev pub IsScriptFault : (script : List ℕ) → ScriptError → Type 0
IsScriptFault script (Refused error) = error ≡ OutOfMemory
IsScriptFault script (FaultyLine number) = document_of script ≡ Err number
