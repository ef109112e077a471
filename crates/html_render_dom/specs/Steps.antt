-- THE DOCUMENT that steps build. A step is a call as numbers over one text: nodes are numbered as steps made them, the
-- document is 0, and names and texts are pieces of that text.
use Rattle.std.specs.Prelude.{◌≡◌, ℕ, ◌+◌, ◌%◌, ◌/◌, ◌≤◌, ◌<◌, ◌==◌, ◌⊎◌, if◌then◌else◌, List, [], ◌∷◌, ◌++◌, length, take, drop, get_or, Option, Some, None, IsSome, Result, Ok, Err, unwrap_or}
use Rattle.std.specs.Str.{IsUtf8}
use Rattle.html_render_dom_values.specs.declared.errors.Error.TheVariants.{OutOfMemory}
use Rattle.html_render_dom_nodes.specs.declared.flags.ElementFlags.{ElementFlags}
use Rattle.html_render_dom_nodes.specs.declared.contents.NodeOrText.TheVariants.{AppendNode}
use Rattle.html_render_dom_nodes.specs.Content.{Space, no_space, html, svg, mathml, Name, comment, instruction, doctype}
use Rattle.html_render_dom_nodes.specs.Edits.{attached_new, created, element_created, with_content}
use Rattle.html_render_dom_nodes.specs.Elements.{completed, contents_in}
use Rattle.html_render_dom_nodes.specs.Moves.{reparented, taken_out, text_before, text_placed}
use Rattle.html_render_dom.specs.Dom.{Dom, IsElement, IsInclusiveAncestor, content_at, empty_dom, node_count, parent_at}
use Rattle.html_render_dom.specs.Edits.{CanAppend, appended, text_appended}
use Rattle.html_render_dom.specs.Moves.{CanAppendBefore, CanPutByParent, appended_before, put_by_parent}
use Rattle.html_render_dom.specs.declared.dom.settings.QuirksMode.{QuirksMode}
use Rattle.html_render_dom.specs.declared.dom.settings.QuirksMode.TheVariants.{Quirks, LimitedQuirks, NoQuirks}
use Rattle.html_render_dom.specs.declared.steps.building.StepError.{StepError}
use Rattle.html_render_dom.specs.declared.steps.building.StepError.TheVariants.{Refused, Faulty}
use Rattle.html_render_dom.specs.declared.steps.step.Step.{Step}
use Rattle.html_render_dom.specs.declared.steps.step.StepKind.{StepKind}
use Rattle.html_render_dom.specs.declared.steps.step.StepKind.TheVariants.{MakeElement, AppendElement, MakeComment, MakeInstruction, AddAttribute, PutNode, PutText, PutNodeBefore, PutTextBefore, PutNodeByParent, PutTextByParent, Remove, Reparent, TemplateContents, PutDoctype, SetQuirks}

abbrev pub kind_of : ℕ → Option StepKind
kind_of n =
    if n == 1 then Some MakeElement else if n == 2 then Some MakeComment else if n == 3 then Some MakeInstruction
    else if n == 4 then Some AddAttribute else if n == 5 then Some PutNode else if n == 6 then Some PutText
    else if n == 7 then Some PutNodeBefore else if n == 8 then Some PutTextBefore else if n == 9 then Some PutNodeByParent
    else if n == 10 then Some PutTextByParent else if n == 11 then Some Remove else if n == 12 then Some Reparent
    else if n == 13 then Some TemplateContents else if n == 14 then Some PutDoctype else if n == 15 then Some SetQuirks
    else if n == 16 then Some AppendElement else None

abbrev pub quirks_mode : (flags : ℕ) → QuirksMode
quirks_mode flags = if flags == 0 then NoQuirks else if flags == 1 then LimitedQuirks else Quirks

abbrev pub space : (flags : ℕ) → Space
space flags =
    if flags % 4 == 0 then no_space else if flags % 4 == 1 then html else if flags % 4 == 2 then svg else mathml

abbrev pub element_flags : (flags : ℕ) → ElementFlags
element_flags flags = record { template = flags / 4 % 2 == 1; mathml_annotation_xml_integration_point = flags / 8 % 2 == 1 }

-- piece of a text
abbrev pub piece : (text : List ℕ) → (start size : ℕ) → List ℕ
piece text start size = take size (drop start text)

-- whether a piece is within the text, and UTF-8
abbrev pub IsPiece : (text : List ℕ) → (start size : ℕ) → Type 0
IsPiece text start size = (start + size ≤ length text) × IsUtf8 (piece text start size)

-- a step's name, and its text
abbrev pub step_name : (text : List ℕ) → Step → Name
step_name text step = record { space = space step.flags; local = piece text step.name step.name_length }

abbrev pub HasName : (text : List ℕ) → Step → Type 0
HasName text step = IsPiece text step.name step.name_length

abbrev pub value_in : (text : List ℕ) → Step → List ℕ
value_in text step = piece text step.value step.value_length

abbrev pub HasValue : (text : List ℕ) → Step → Type 0
HasValue text step = IsPiece text step.value step.value_length

-- document so far, and its nodes by their numbers in steps
pub record Built : Type 0 where
  pub dom : Dom
  pub made : List ℕ

abbrev pub begun : Built
begun = record { dom = empty_dom; made = 0 ∷ [] }

abbrev pub HasNode : Built → (number : ℕ) → Type 0
HasNode b number = number < length b.made

abbrev pub made_node : Built → (number : ℕ) → ℕ
made_node b number = get_or b.made number 0

-- document with one more numbered node
abbrev pub with_node : Built → Dom → (node : ℕ) → Built
with_node b dom node = record { dom = dom; made = b.made ++ node ∷ [] }

-- document after a text is inserted before a node that has a parent
abbrev pub with_text_before : Dom → (parent : Option ℕ) → (sibling : ℕ) → List ℕ → Dom
with_text_before dom None sibling more = dom
with_text_before dom (Some parent) sibling more =
    record dom { nodes = text_placed dom.nodes parent sibling (text_before dom.nodes parent sibling) more }

-- document after a text is inserted before a node that has a parent, or else appended to another one
abbrev pub with_text_by_parent : Dom → (parent : Option ℕ) → (sibling other : ℕ) → List ℕ → Dom
with_text_by_parent dom None sibling other more = text_appended dom other more
with_text_by_parent dom (Some parent) sibling other more = with_text_before dom (Some parent) sibling more

-- document with a step's new element, which has no parent
abbrev pub with_element : (text : List ℕ) → Step → Dom → Dom
with_element text step dom = record dom { nodes = element_created dom.nodes (step_name text step) [] (element_flags step.flags) }

-- whether a step of a kind can be taken: its nodes and its pieces of the text are there, and the document allows the call
abbrev pub Allows : (text : List ℕ) → Step → Option StepKind → Built → Type 0
Allows text step None old = ⊥
Allows text step (Some MakeElement) old = HasName text step
Allows text step (Some MakeComment) old = HasValue text step
Allows text step (Some MakeInstruction) old = HasName text step × HasValue text step
Allows text step (Some AddAttribute) old =
    HasNode old step.node × IsElement (content_at old.dom (made_node old step.node)) × HasName text step × HasValue text step
Allows text step (Some PutNode) old =
    HasNode old step.node × HasNode old step.child × CanAppend old.dom (made_node old step.node) (AppendNode (made_node old step.child))
Allows text step (Some PutText) old = HasNode old step.node × HasValue text step
Allows text step (Some PutNodeBefore) old = HasNode old step.node × HasNode old step.child
    × IsSome (parent_at old.dom (made_node old step.node)) × CanAppendBefore old.dom (made_node old step.node) (AppendNode (made_node old step.child))
Allows text step (Some PutTextBefore) old =
    HasNode old step.node × IsSome (parent_at old.dom (made_node old step.node)) × HasValue text step
Allows text step (Some PutNodeByParent) old =
    let element = made_node old step.node in
    HasNode old step.node × HasNode old step.other × HasNode old step.child
    × CanPutByParent old.dom (parent_at old.dom element) element (made_node old step.other) (AppendNode (made_node old step.child))
Allows text step (Some PutTextByParent) old = HasNode old step.node × HasNode old step.other × HasValue text step
Allows text step (Some Remove) old = HasNode old step.node
Allows text step (Some Reparent) old =
    HasNode old step.node × HasNode old step.other × ¬ IsInclusiveAncestor old.dom (made_node old step.node) (made_node old step.other)
Allows text step (Some TemplateContents) old =
    HasNode old step.node × IsSome (contents_in (content_at old.dom (made_node old step.node)))
Allows text step (Some PutDoctype) old = HasName text step × HasValue text step
Allows text step (Some SetQuirks) old = Unit {0}
Allows text step (Some AppendElement) old = HasNode old step.node × HasName text step

-- what a step of a kind makes
abbrev pub step_result : (text : List ℕ) → Step → Option StepKind → Built → Built
step_result text step None old = old
step_result text step (Some MakeElement) old = with_node old (with_element text step old.dom) (node_count old.dom)
step_result text step (Some MakeComment) old =
    with_node old (record old.dom { nodes = created old.dom.nodes (comment (value_in text step)) }) (node_count old.dom)
step_result text step (Some MakeInstruction) old = with_node old
    (record old.dom { nodes = created old.dom.nodes (instruction (step_name text step).local (value_in text step)) }) (node_count old.dom)
step_result text step (Some AddAttribute) old =
    let element = made_node old step.node in
    let given = record { name = step_name text step; value = value_in text step } ∷ [] in
    record old { dom = record old.dom { nodes = with_content old.dom.nodes element (completed (content_at old.dom element) given) } }
step_result text step (Some PutNode) old =
    record old { dom = appended old.dom (made_node old step.node) (AppendNode (made_node old step.child)) }
step_result text step (Some PutText) old = record old { dom = text_appended old.dom (made_node old step.node) (value_in text step) }
step_result text step (Some PutNodeBefore) old =
    record old { dom = appended_before old.dom (made_node old step.node) (AppendNode (made_node old step.child)) }
step_result text step (Some PutTextBefore) old =
    let sibling = made_node old step.node in
    record old { dom = with_text_before old.dom (parent_at old.dom sibling) sibling (value_in text step) }
step_result text step (Some PutNodeByParent) old =
    let element = made_node old step.node in
    record old { dom = put_by_parent old.dom (parent_at old.dom element) element (made_node old step.other) (AppendNode (made_node old step.child)) }
step_result text step (Some PutTextByParent) old =
    let element = made_node old step.node in
    record old { dom = with_text_by_parent old.dom (parent_at old.dom element) element (made_node old step.other) (value_in text step) }
step_result text step (Some Remove) old =
    let node = made_node old step.node in
    record old { dom = record old.dom { nodes = taken_out old.dom.nodes (parent_at old.dom node) node } }
step_result text step (Some Reparent) old =
    record old { dom = record old.dom { nodes = reparented old.dom.nodes (made_node old step.node) (made_node old step.other) } }
step_result text step (Some TemplateContents) old =
    with_node old old.dom (unwrap_or (contents_in (content_at old.dom (made_node old step.node))) 0)
step_result text step (Some PutDoctype) old =
    record old { dom = record old.dom { nodes = attached_new old.dom.nodes (doctype (step_name text step).local (value_in text step) []) 0 } }
step_result text step (Some SetQuirks) old = record old { dom = record old.dom { mode = quirks_mode step.flags } }
step_result text step (Some AppendElement) old =
    let element = node_count old.dom in
    with_node old (appended (with_element text step old.dom) (made_node old step.node) (AppendNode element)) element

-- what steps make, taken in order
abbrev pub built_by : (text : List ℕ) → List Step → Built → Built
built_by text [] old = old
built_by text (step ∷ steps) old = built_by text steps (step_result text step (kind_of step.kind) old)

-- whether this is the outcome of steps, taken in order, of which the first has this number: a document, or the number of the
-- first step that can't be taken
abbrev pub IsOutcome : (text : List ℕ) → List Step → (number : ℕ) → Built → Result Dom ℕ → Type 0
IsOutcome text [] number old outcome = outcome ≡ Ok old.dom
IsOutcome text (step ∷ steps) number old outcome =
    let kind = kind_of step.kind in
    (Allows text step kind old × IsOutcome text steps (number + 1) (step_result text step kind old) outcome)
    ⊎ (¬ Allows text step kind old × (outcome ≡ Err number))

-- whether this is the document that the steps build
abbrev pub AreStepsOf : (text : List ℕ) → List Step → Dom → Type 0
AreStepsOf text steps dom = IsOutcome text steps 0 begun (Ok dom)

-- whether the step of this number, from 0, is the first that can't be taken
abbrev pub IsFaultyStep : (text : List ℕ) → List Step → (number : ℕ) → Type 0
IsFaultyStep text steps number = IsOutcome text steps 0 begun (Err number)

-- whether this is a reason for steps without a document: memory is out, or a step is faulty
abbrev pub IsStepFault : (text : List ℕ) → List Step → StepError → Type 0
IsStepFault text steps (Refused e) = e ≡ OutOfMemory
IsStepFault text steps (Faulty number) = IsFaultyStep text steps number
