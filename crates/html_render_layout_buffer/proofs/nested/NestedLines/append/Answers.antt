use Rattle.html_render_layout_buffer.proofs.OpenBlocks.{made, is-nested, opened, few-prefixes, added}
use Rattle.html_render_layout_buffer.proofs.nested.NestedLines.append.Goals as goal

pub append-put-requires : goal.append-put-requires
append-put-requires g c = few-prefixes _ _ (opened _ _ c.self.invariant c.self.view_is)

pub invariant_of-self : goal.invariant_of-self
invariant_of-self g c = is-nested _ _ (added _ _ _ c.args.other.now (opened _ _ c.self.invariant c.self.view_is) c.in-Ok.ensures)

pub returns-in-Ok : goal.returns-in-Ok
returns-in-Ok g c = rw c.in-Ok.is (made _ _ (added _ _ _ c.args.other.now (opened _ _ c.self.invariant c.self.view_is) c.in-Ok.ensures))
