use Rattle.std.proofs.Common.{arith}
use Rattle.html_render_dom.specs.laws.steps.Determined.{ahead-faulty, ahead-step}
use Rattle.html_render_dom.proofs.steps.building.built.Goals as goal

pub loop-step-preserved : goal.loop-step-preserved
loop-step-preserved c =
    let done = rw c.step_kind.ensures at c.in-Ok.ensures.ok in record {
      within = omega (arith, c.loop-step.invariant.within, c.in-Some.ensures.cases.1);
      ahead = ahead-step c.args.text.now c.args.steps.now c.loop-step.rest.now c.loop-step.builder c.in-Some.step.now c.in-Some.behind.now
          c.take.new.self c.loop-step.invariant.ahead c.loop-step.invariant.within c.in-Some.ensures.cases.0 done.0 done.1;
    }

pub returns-in-Err-Faulty-clause-err : goal.returns-in-Err-Faulty-clause-err
returns-in-Err-Faulty-clause-err c =
    ahead-faulty c.args.text.now c.args.steps.now c.loop-step.rest.now c.loop-step.builder c.in-Some.step.now c.in-Some.behind.now
    c.loop-step.invariant.ahead c.in-Some.ensures.cases.0 (rw (c.in-Err-Faulty.field-0-is, c.step_kind.ensures) at c.in-Err-Faulty.ensures.err)
