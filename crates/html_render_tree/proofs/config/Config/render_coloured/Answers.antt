use Rattle.std.proofs.lemmas.Result.{IfOk-weaker}
use Rattle.html_render_layout_tagged.specs.Grouping.{lines_of}
use Rattle.html_render_tree.proofs.config.Config.render_coloured.Goals as goal

pub returns-clause-ok : goal.returns-clause-ok
returns-clause-ok g c =
    IfOk-weaker c.coloured.result _ _ (λ text told. (lines_of c.in_ok-lines.lines.items, told.0, c.in_ok-lines.ensures.ok, told.1))
    (rw c.deref.ensures.value at c.coloured.ensures.ok)

pub returns-clause-lines : goal.returns-clause-lines
returns-clause-lines g c =
    IfOk-weaker c.coloured.result _ _ (λ text told. (lines_of c.in_ok-lines.lines.items, told.0, c.in_ok-lines.ensures.lines, told.1))
    (rw c.deref.ensures.value at c.coloured.ensures.ok)
