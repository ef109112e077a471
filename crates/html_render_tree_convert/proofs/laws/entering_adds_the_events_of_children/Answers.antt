use Rattle.html_render_tree_convert.proofs.VisitRuns.{comes_entered}
use Rattle.html_render_tree_convert.proofs.laws.entering_adds_the_events_of_children.Goals as goal

pub returns : goal.returns
returns c = λ rules dom forest h at. comes_entered rules dom forest h
