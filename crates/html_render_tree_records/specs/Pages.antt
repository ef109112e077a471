-- THE OUTCOME OF A CALL for a document of steps: bytes, or the first cause for a call without them.
use Rattle.std.specs.Prelude.{◌≡◌, ℕ, Bool, true, List, [], ◌∷◌, ◌++◌, Option, Some, None, option_map, Result, Ok, Err, Vec}
use Rattle.std.specs.Ptr.{Ptr}
use Rattle.std.specs.declared.alloc.Global.{Global}
use Rattle.html_render_dom_values.specs.Forest.{Forest}
use Rattle.html_render_dom_values.specs.declared.errors.Error.TheVariants.{TooNarrow, Fail, OutOfMemory}
use Rattle.html_render_dom.specs.Dom.{Dom}
use Rattle.html_render_dom_styles.specs.Rules.{Rule}
use Rattle.html_render_layout_nodes.specs.declared.tree.RenderNode.{RenderNode}
use Rattle.html_render_parts.specs.Decoration.{Decoration}
use Rattle.html_render_parts.specs.Decorators.{plain, rich}
use Rattle.html_render_parts.specs.declared.decorate.plain.PlainDecorator.{PlainDecorator}
use Rattle.html_render_parts.specs.declared.decorate.rich.RichAnnotation.{RichAnnotation}
use Rattle.html_render_parts.specs.declared.decorate.rich.RichDecorator.{RichDecorator}
use Rattle.html_render_tree_convert.specs.Results.{render_tree_of}
use Rattle.html_render_tree.specs.Rendering.{Options, initial_options, rendered_lines, rendered_strings}
use Rattle.html_render_tree.specs.Texts.{text_of}
use Rattle.html_render_dom.specs.Steps.{AreStepsOf, IsFaultyStep}
use Rattle.html_render_dom.specs.declared.steps.step.Step.{Step}
use Rattle.html_render_tree_records.specs.Faults.{IsPlaceOf, result_size, status_of}
use Rattle.html_render_tree_records.specs.Records.{line_records, plain_record, rich_record}
use Rattle.html_render_tree_records.specs.Settings.{configured, IsFaultySetting}
use Rattle.html_render_tree_records.specs.declared.faults.Fault.{Fault}
use Rattle.html_render_tree_records.specs.declared.faults.Fault.TheVariants as fault
use Rattle.html_render_tree_records.specs.declared.settings.Setting.{Setting}

-- ---- bytes of a render tree; none where the width is too narrow

-- text of a render tree
abbrev pub text_written : {S A : Type 0} → Decoration S A → (width : ℕ) → Options S → Forest RenderNode → Option (List ℕ)
text_written d width options tree = option_map text_of (rendered_lines d options tree width)

-- records of a render tree's lines
abbrev pub records_written : {S A : Type 0} → Decoration S A → (eq : A → A → Bool) → (A → List ℕ) → (width : ℕ) → Options S → Forest RenderNode → Option (List ℕ)
records_written d eq annotation_record width options tree = option_map (line_records annotation_record) (rendered_strings d options tree width eq)

-- ---- a document under options

-- whether this is the render tree, under these rules, of the document that the steps build over a text
pub record IsTreeOf (rules : List Rule) (over : List ℕ) (steps : List Step) (tree : Forest RenderNode) : Type 0 where
  pub dom : Dom
  pub built : AreStepsOf over steps dom
  pub converted : render_tree_of rules dom ≡ Some tree

-- whether the steps build a document without a render tree under these rules
pub record HasNoTree (rules : List Rule) (over : List ℕ) (steps : List Step) : Type 0 where
  pub dom : Dom
  pub built : AreStepsOf over steps dom
  pub not_converted : render_tree_of rules dom ≡ None

-- whether this is a cause for a missing render tree: a faulty step, a document without one, or memory that is out
abbrev pub IsTreeFault : (rules : List Rule) → (over : List ℕ) → List Step → Fault → Type 0
IsTreeFault rules over steps (fault.Step number) = IsFaultyStep over steps number
IsTreeFault rules over steps (fault.Refused Fail) = HasNoTree rules over steps
IsTreeFault rules over steps (fault.Refused TooNarrow) = ⊥
IsTreeFault rules over steps (fault.Refused OutOfMemory) = Unit {0}
IsTreeFault rules over steps (fault.Setting number) = ⊥
IsTreeFault rules over steps fault.Decorator = ⊥

module _ {S : Type 0} (written : Options S → Forest RenderNode → Option (List ℕ)) (options : Options S) (over : List ℕ) (steps : List Step) where
  -- whether this is the outcome of the document: the bytes, or the first of these causes: a faulty step, no render tree, too
  -- narrow a width. Memory may be out at any time.
  abbrev pub IsDocumentOutcome : Result (List ℕ) Fault → Type 0
  IsDocumentOutcome (Ok bytes) = (tree : Forest RenderNode) × IsTreeOf options.rules over steps tree × (written options tree ≡ Some bytes)
  IsDocumentOutcome (Err (fault.Step number)) = IsFaultyStep over steps number
  IsDocumentOutcome (Err (fault.Refused Fail)) = HasNoTree options.rules over steps
  IsDocumentOutcome (Err (fault.Refused TooNarrow)) = (tree : Forest RenderNode) × IsTreeOf options.rules over steps tree × (written options tree ≡ None)
  IsDocumentOutcome (Err (fault.Refused OutOfMemory)) = Unit {0}
  IsDocumentOutcome (Err (fault.Setting number)) = ⊥
  IsDocumentOutcome (Err fault.Decorator) = ⊥

-- ---- a document under settings

module _ {S : Type 0} (written : Options S → Forest RenderNode → Option (List ℕ)) (begin : Options S) (over : List ℕ) (steps : List Step) (settings : List Setting) where
  -- whether the settings make options of the first ones, under which the document has this outcome
  pub record IsOutcomeUnder (outcome : Result (List ℕ) Fault) : Type 0 where
    pub options : Options S
    pub made : configured over settings begin ≡ Some options
    pub is : IsDocumentOutcome written options over steps outcome

  -- whether this is THE OUTCOME: that of the document, unless a setting is faulty
  abbrev pub IsOutcome : Result (List ℕ) Fault → Type 0
  IsOutcome (Ok bytes) = IsOutcomeUnder (Ok bytes)
  IsOutcome (Err (fault.Setting number)) = IsFaultySetting over settings begin number
  IsOutcome (Err (fault.Step number)) = IsOutcomeUnder (Err (fault.Step number))
  IsOutcome (Err (fault.Refused Fail)) = IsOutcomeUnder (Err (fault.Refused Fail))
  IsOutcome (Err (fault.Refused TooNarrow)) = IsOutcomeUnder (Err (fault.Refused TooNarrow))
  IsOutcome (Err (fault.Refused OutOfMemory)) = Unit {0}
  IsOutcome (Err fault.Decorator) = ⊥

-- ---- the two calls

module _ (over : List ℕ) (steps : List Step) (settings : List Setting) (width : ℕ) where
  -- whether this is THE OUTCOME of a text, with the decorator of plain text, and with that of rich text
  abbrev pub IsPlainText : Result (List ℕ) Fault → Type 0
  IsPlainText outcome = (decorator : PlainDecorator) × IsOutcome (text_written (plain {A = Unit {0}} tt) width) (initial_options decorator) over steps settings outcome

  abbrev pub IsRichText : Result (List ℕ) Fault → Type 0
  IsRichText outcome = (decorator : RichDecorator) × IsOutcome (text_written rich width) (initial_options decorator) over steps settings outcome

  -- whether this is THE OUTCOME of records of lines, with the decorator of plain text
  abbrev pub IsPlainLines : Result (List ℕ) Fault → Type 0
  IsPlainLines outcome = (decorator : PlainDecorator)
      × IsOutcome (records_written (plain {A = Unit {0}} tt) (λ _ _. true) (λ _. plain_record) width) (initial_options decorator) over steps settings outcome

-- whether this is THE OUTCOME of records of lines, with the decorator of rich text; `eq` compares annotations
abbrev pub IsRichLines : (eq : RichAnnotation → RichAnnotation → Bool) → (over : List ℕ) → List Step → List Setting → (width : ℕ) → Result (List ℕ) Fault → Type 0
IsRichLines eq over steps settings width outcome = (decorator : RichDecorator)
    × IsOutcome (records_written rich eq rich_record width) (initial_options decorator) over steps settings outcome

-- ---- result for the caller

-- whether bytes with a zero after them, or a fault, have this outcome
abbrev pub Ends : (Result (List ℕ) Fault → Type 0) → Result (Vec ℕ Global) Fault → Type 0
Ends IsOutcome (Ok ended) = (bytes : List ℕ) × (ended.items ≡ bytes ++ 0 ∷ []) × IsOutcome (Ok bytes)
Ends IsOutcome (Err f) = IsOutcome (Err f)

-- whether a status, a size and an address have this outcome
pub record IsReturned (IsOutcome : Result (List ℕ) Fault → Type 0) (status size : ℕ) (old_place place : Ptr) : Type 0 where
  pub outcome : Result (List ℕ) Fault
  pub is : IsOutcome outcome
  pub has_status : status ≡ status_of outcome
  pub has_size : size ≡ result_size outcome
  pub has_place : IsPlaceOf outcome old_place place
