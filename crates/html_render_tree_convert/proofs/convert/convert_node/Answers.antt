use Rattle.std.proofs.Common.{◌≡◌, Some, map, subst, sym, ◌∙◌}
use Rattle.html_render_dom_styles.specs.Rules.{rule_of}
use Rattle.html_render_tree_convert.specs.Steps.{run}
use Rattle.html_render_tree_convert.specs.Visits.{done_at_once, followed}
use Rattle.html_render_tree_convert.proofs.convert.convert_node.Goals as goal

pub returns-then-is_plain_cell-clause-done : goal.returns-then-is_plain_cell-clause-done
returns-then-is_plain_cell-clause-done c = record {
  ok = subst (λ p. run (done_at_once p) c.args.conversion.now ≡ Some c.enter_cell.new.conversion)
      (sym (c.in-Some-plain_name.ensures (map rule_of c.args.rules.now) ∙ c.if-is_plain_cell.ensures)) c.in_ok-enter_cell.ensures.ok;
  err = tt;
}

pub returns-then-is_plain_cell-clause-cursor : goal.returns-then-is_plain_cell-clause-cursor
returns-then-is_plain_cell-clause-cursor c =
    subst (λ p. c.enter_cell.new.cursor ≡ followed p c.args.node c.args.cursor.now)
    (sym (c.in-Some-plain_name.ensures (map rule_of c.args.rules.now) ∙ c.if-is_plain_cell.ensures)) c.in_ok-enter_cell.ensures.cursor
