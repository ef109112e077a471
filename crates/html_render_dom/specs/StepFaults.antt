-- Outcomes of single steps: faults, and the document after a step.
use Rattle.std.specs.Prelude.{◌≡◌, ℕ, List, Option, Result, IfErr, OnOk}
use Rattle.html_render_dom_values.specs.declared.errors.Error.TheVariants.{OutOfMemory}
use Rattle.html_render_dom.specs.declared.faults.Fault.{Fault}
use Rattle.html_render_dom.specs.declared.faults.Fault.TheVariants.{Refused, Faulty}
use Rattle.html_render_dom.specs.declared.steps.step.Step.{Step}
use Rattle.html_render_dom.specs.declared.steps.step.StepKind.{StepKind}
use Rattle.html_render_dom.specs.Steps.{Allows, Built, step_result}

-- whether a fault denies a claim: a faulty step does; out of memory states nothing about it
abbrev pub Denies : Fault → (wanted : Type 0) → Type 0
Denies (Refused e) wanted = e ≡ OutOfMemory
Denies Faulty wanted = ¬ wanted

-- outcome of a step of a kind over a text: what it makes of `old`, or a fault
pub record Performs {X : Type 0} (result : Result X Fault) (text : List ℕ) (step : Step) (kind : Option StepKind) (old new : Built) : Type 0 where
  pub ok : OnOk result (Allows text step kind old × (new ≡ step_result text step kind old))
  pub err : IfErr result (λ fault. Denies fault (Allows text step kind old))
