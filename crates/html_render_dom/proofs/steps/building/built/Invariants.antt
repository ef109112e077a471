use Rattle.std.proofs.Common.{◌≤◌, length}
use Rattle.html_render_dom.specs.laws.steps.Determined.{IsAhead}
use Rattle.html_render_dom.proofs.steps.building.built.Given as goal

-- the steps that are left have the outcome of all, from the document that is built
abbrev pub invariant-loop-step : goal.invariant-loop-step
invariant-loop-step l = record {
  within : length l.rest ≤ length l.steps;
  ahead : IsAhead l.text l.steps l.rest l.builder;
}

abbrev pub decreases-loop-step : goal.decreases-loop-step
decreases-loop-step l = length l.rest
