use Rattle.std.proofs.Common.{◌≡◌, Some, subst, sym, ◌∙◌}
use Rattle.html_render_tree_convert.specs.Steps.{run}
use Rattle.html_render_tree_convert.specs.Visits.{done_at_once, followed}
use Rattle.html_render_tree_convert.proofs.convert.convert_named.Goals as goal

pub returns-in-Some-clause-done : goal.returns-in-Some-clause-done
returns-in-Some-clause-done c = record {
  ok = subst (λ p. run (done_at_once p) c.args.conversion.now ≡ Some c.enter.new.conversion)
      (sym (c.requires.name ∙ c.in-Some.ensures)) c.in_ok-enter.ensures.ok;
  err = tt;
}

pub returns-in-Some-clause-cursor : goal.returns-in-Some-clause-cursor
returns-in-Some-clause-cursor c =
    subst (λ p. c.enter.new.cursor ≡ followed p c.args.node c.args.cursor.now)
    (sym (c.requires.name ∙ c.in-Some.ensures)) c.in_ok-enter.ensures.cursor
