use Rattle.std.proofs.Common.{◌≡◌, Ok, Err, arith}
use Rattle.html_render_dom.specs.Steps.{begun}
use Rattle.html_render_dom.specs.laws.steps.Determined.{in_order, one_outcome}
use Rattle.html_render_dom.proofs.steps.laws.steps_have_one_outcome.Goals as goal

pub returns : goal.returns
returns c = record {
  one_document = λ text steps x y a b. let same = one_outcome text steps 0 begun (Ok x) (Ok y) a b in cc;
  no_faulty_step = λ text steps dom number a b. let same = one_outcome text steps 0 begun (Ok dom) (Err number) a b in cc;
  one_faulty_step = λ text steps x y a b. let same = one_outcome text steps 0 begun (Err x) (Err y) a b in cc;
  document_takes = λ text steps dom is n step at. in_order text steps 0 begun (Ok dom) is n step at (λ m e. absurd (cc));
  faulty_takes = λ text steps number is n lt step at. in_order text steps 0 begun (Err number) is n step at
      (λ m e. let same : number ≡ m = cc in omega (arith, same, lt));
}
