use Rattle.std.proofs.Common.{◌++◌, replicate, ap, ◌∙◌}
use Rattle.html_render_layout_buffer.proofs.TagLists.{switched}
use Rattle.html_render_layout_buffer.proofs.runs.TagRuns.push_run_of.Goals as goal

pub invariant_of-self-2 : goal.invariant_of-self-2
invariant_of-self-2 g c = rw c.in_ok-close_run.ensures.ok (switched _ _ c.args.tag _ _ c.args.count _ c.self.invariant c.in_ok-len.ensures).0

pub returns-clause-ok : goal.returns-clause-ok
returns-clause-ok g c =
    rw c.in_ok-close_run.ensures.ok ((switched _ _ c.args.tag _ _ c.args.count _ c.self.invariant c.in_ok-len.ensures).1
    ∙ ap (λ y. y ++ replicate c.args.count c.args.tag) c.self.view_is)
