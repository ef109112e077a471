-- Steps have at most one outcome. Each step of a document, and each before a faulty one, can be taken.
use Rattle.std.specs.Prelude.{◌≡◌, ℕ, zero, suc, ◌+◌, ◌-◌, ◌<◌, ◌≤◌, List, [], ◌∷◌, length, take, slice_get, Some, Result, Err}
use Rattle.std.proofs.Common.{inl, inr, refl, sym, ap, ◌∙◌, subst, arith}
use Rattle.std.proofs.lemmas.Option.{none-some, same_Some}
use Rattle.html_render_dom.specs.Dom.{Dom}
use Rattle.html_render_dom.specs.declared.steps.step.Step.{Step}
use Rattle.html_render_dom.specs.Steps.{Allows, Built, IsFaultyStep, IsOutcome, begun, built_by, kind_of, step_result}

module _ (text : List ℕ) where
  pub one_outcome : (steps : List Step) (number : ℕ) (old : Built) (x y : Result Dom ℕ) → IsOutcome text steps number old x → IsOutcome text steps number old y → x ≡ y
  one_outcome [] number old x y a b = a ∙ sym b
  one_outcome (step ∷ steps) number old x y (inl a) (inl b) = one_outcome steps (number + 1) (step_result text step (kind_of step.kind) old) x y a.1 b.1
  one_outcome (step ∷ steps) number old x y (inl a) (inr b) = absurd (b.0 a.0)
  one_outcome (step ∷ steps) number old x y (inr a) (inl b) = absurd (a.0 b.0)
  one_outcome (step ∷ steps) number old x y (inr a) (inr b) = a.1 ∙ sym b.1

  -- a step is taken if none before it is faulty
  pub in_order : (steps : List Step) (number : ℕ) (old : Built) (x : Result Dom ℕ) → IsOutcome text steps number old x → (n : ℕ) (step : Step) →
      slice_get steps n ≡ Some step → ((m : ℕ) → x ≡ Err m → number + n < m) → Allows text step (kind_of step.kind) (built_by text (take n steps) old)
  in_order [] number old x is n step at later = absurd (none-some step at)
  in_order (s ∷ steps) number old x (inr (not, is)) n step at later = absurd (omega (arith, later number is))
  in_order (s ∷ steps) number old x (inl (allowed, is)) zero step at later =
      subst (λ t. Allows text t (kind_of t.kind) old) (same_Some s step at) allowed
  in_order (s ∷ steps) number old x (inl (allowed, is)) (suc n) step at later =
      in_order steps (number + 1) (step_result text s (kind_of s.kind) old) x is n step at (λ m e. omega (arith, later m e))

  -- whether each outcome of the steps that are left, from `built`, is one of all steps
  abbrev pub IsAhead : (steps ahead : List Step) → Built → Type 0
  IsAhead steps ahead built =
      (x : Result Dom ℕ) → IsOutcome text ahead (length steps - length ahead) built x → IsOutcome text steps 0 begun x

  pub ahead-step : (steps ahead : List Step) (old : Built) (step : Step) (behind : List Step) (new : Built) → IsAhead steps ahead old →
      length ahead ≤ length steps → ahead ≡ step ∷ behind → Allows text step (kind_of step.kind) old →
      new ≡ step_result text step (kind_of step.kind) old → IsAhead steps behind new
  ahead-step steps ahead old step behind new is within first allowed made x more =
      let next : length steps - length behind ≡ length steps - length (step ∷ behind) + 1 = omega (arith, ap length first, within) in
      is x (rw first (inl (allowed, rw (next, made) at more)))

  pub ahead-faulty : (steps ahead : List Step) (old : Built) (step : Step) (behind : List Step) → IsAhead steps ahead old →
      ahead ≡ step ∷ behind → ¬ Allows text step (kind_of step.kind) old → IsFaultyStep text steps (length steps - length ahead)
  ahead-faulty steps ahead old step behind is first not = is (Err (length steps - length ahead)) (rw first (inr (not, refl)))
