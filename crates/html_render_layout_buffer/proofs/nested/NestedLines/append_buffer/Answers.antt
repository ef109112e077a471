use Rattle.html_render_layout_buffer.proofs.OpenBlocks.{made, is-nested, opened, added}
use Rattle.html_render_layout_buffer.proofs.nested.NestedLines.append_buffer.Goals as goal

pub invariant_of-self : goal.invariant_of-self
invariant_of-self g c = is-nested _ _ (added _ _ _ c.args.lines.now.lines (opened _ _ c.self.invariant c.self.view_is) c.in-Ok.ensures.ok)

pub returns-in-Ok-clause-ok : goal.returns-in-Ok-clause-ok
returns-in-Ok-clause-ok g c = rw c.in-Ok.is (made _ _ (added _ _ _ c.args.lines.now.lines (opened _ _ c.self.invariant c.self.view_is) c.in-Ok.ensures.ok))
