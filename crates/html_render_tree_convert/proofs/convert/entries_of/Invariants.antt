use Rattle.std.proofs.Common.{◌≡◌, All, map}
use Rattle.html_render_dom_styles.specs.Rules.{rule_of}
use Rattle.html_render_dom.specs.Dom.{IsNode}
use Rattle.html_render_tree_walk.specs.Walk.{coming}
use Rattle.html_render_tree_convert.proofs.VisitRuns.{rest_run, whole_run}
use Rattle.html_render_tree_convert.proofs.VisitsLeft.{work}
use Rattle.html_render_tree_convert.proofs.convert.entries_of.Given as goal

-- the events that come end as all events of the document do
abbrev pub invariant-visits : goal.invariant-visits
invariant-visits l = record {
  comes : rest_run (map rule_of l.rules) l.dom l.cursor l.conversion ≡ whole_run (map rule_of l.rules) l.dom;
  nodes : All (λ p. IsNode l.dom p.element) l.cursor;
}

abbrev pub decreases-visits : goal.decreases-visits
decreases-visits l = work l.dom (coming l.dom l.cursor)
