-- The outcome of a document is that of a call: a fault on the way is the fault of the call.
use Rattle.std.proofs.Common.{◌≡◌, ℕ, ◌+◌, ◌-◌, List, [], ◌∷◌, length, Option, Some, Result, Ok, Err, IfOk, IfErr, Vec, ap, subst, ◌∙◌, arith, length-append}
use Rattle.std.specs.Borrow.{MutBor}
use Rattle.std.specs.Ptr.{Ptr}
use Rattle.std.specs.declared.alloc.Global.{Global}
use Rattle.html_render_dom_values.specs.Forest.{Forest}
use Rattle.html_render_dom_values.specs.declared.errors.Error.TheVariants.{TooNarrow, Fail, OutOfMemory}
use Rattle.html_render_layout_nodes.specs.declared.tree.RenderNode.{RenderNode}
use Rattle.html_render_tree.specs.Rendering.{Options, initial_options}
use Rattle.html_render_dom.specs.declared.steps.step.Step.{Step}
use Rattle.html_render_tree_records.specs.Faults.{code_of, record_of, IsGiven}
use Rattle.html_render_tree_records.specs.Pages.{Ends, IsDocumentOutcome, IsOutcome, IsReturned}
use Rattle.html_render_tree_records.specs.Settings.{configured}
use Rattle.html_render_tree_records.specs.declared.faults.Fault.{Fault}
use Rattle.html_render_tree_records.specs.declared.faults.Fault.TheVariants as fault
use Rattle.html_render_tree_records.specs.declared.settings.Setting.{Setting}

-- ---- a document under settings

module _ {S : Type 0} (written : Options S → Forest RenderNode → Option (List ℕ)) (begin : Options S) (over : List ℕ) (steps : List Step) (settings : List Setting) where
  pub outcome-from_document : (options : Options S) → configured over settings begin ≡ Some options
      → (f : Fault) → IsDocumentOutcome written options over steps (Err f) → IsOutcome written begin over steps settings (Err f)
  outcome-from_document options made (fault.Setting number) h = absurd h
  outcome-from_document options made (fault.Refused OutOfMemory) h = tt
  outcome-from_document options made (fault.Refused TooNarrow) h = record { options = options; made = made; is = h }
  outcome-from_document options made (fault.Refused Fail) h = record { options = options; made = made; is = h }
  outcome-from_document options made (fault.Step number) h = record { options = options; made = made; is = h }
  outcome-from_document options made fault.Decorator h = h

-- with the decorator that a configuration begins with
module _ {S : Type 0} (written : Options S → Forest RenderNode → Option (List ℕ)) (over : List ℕ) (steps : List Step) (settings : List Setting) where
  pub begun : (begin : Options S) (d : S) → begin ≡ initial_options d → (given : Result (Vec ℕ Global) Fault) → Ends (IsOutcome written begin over steps settings) given
      → Ends (λ outcome. (decorator : S) × IsOutcome written (initial_options decorator) over steps settings outcome) given
  begun begin d is (Ok ended) h = (h.0, h.1, (d, subst (λ (o : Options S). IsOutcome written o over steps settings (Ok h.0)) is h.2))
  begun begin d is (Err f) h = (d, subst (λ (o : Options S). IsOutcome written o over steps settings (Err f)) is h)

-- ---- result for the caller

module _ (Is : Result (List ℕ) Fault → Type 0) (status : ℕ) (given : Option (MutBor (List ℕ))) (size : ℕ) (old_place place : Ptr) where
  pub returned : (rendered : Result (Vec ℕ Global) Fault) → Ends Is rendered
      → IfOk rendered (λ ended. (status ≡ 0) × (size ≡ length ended.items - 1) × IsGiven given ended.items place)
      → IfErr rendered (λ f. (status ≡ code_of f) × (size ≡ record_of f) × (place ≡ old_place))
      → IsReturned Is status size old_place place
  returned (Ok ended) h is_ok is_err =
      let size_is : size ≡ length ended.items - 1 = is_ok.1 in
      let longer : length ended.items ≡ length h.0 + 1 = ap length h.1 ∙ length-append h.0 (0 ∷ []) in
      let slice = is_ok.2.slice in
      let has = is_ok.2.has in
      record { outcome = Ok h.0; is = h.2; has_status = is_ok.0; has_size = omega arith; has_place = (slice, record { has_bytes = has.has_bytes ∙ h.1; is_at = has.is_at }) }
  returned (Err f) h is_ok is_err = record { outcome = Err f; is = h; has_status = is_err.0; has_size = is_err.1; has_place = is_err.2 }
