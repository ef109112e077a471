use Rattle.html_render_tree.proofs.Runs.{appends_front-from_writes}
use Rattle.html_render_tree.proofs.htree.run.Goals as goal

pub returns-clause-fault : goal.returns-clause-fault
returns-clause-fault g c failed asked =
    let (fault, status, line, ends) = c.ended-status.ensures.fault failed asked in
    (fault, status, appends_front-from_writes _ _ _ _ line, ends)
