use Rattle.std.proofs.Common.{[], ◌∷◌}
use Rattle.html_render_layout_lines.specs.Line.{marks_line}
use Rattle.html_render_layout_buffer.proofs.OpenBlocks.{made, is-nested, opened, added}
use Rattle.html_render_layout_buffer.proofs.nested.NestedLines.push_marks_line.Goals as goal

pub invariant_of-self : goal.invariant_of-self
invariant_of-self g c = is-nested _ _ (added _ _ _ (marks_line c.args.marks.now ∷ []) (opened _ _ c.self.invariant c.self.view_is) c.in-Ok.ensures)

pub returns-in-Ok : goal.returns-in-Ok
returns-in-Ok g c = rw c.in-Ok.is (made _ _ (added _ _ _ (marks_line c.args.marks.now ∷ []) (opened _ _ c.self.invariant c.self.view_is) c.in-Ok.ensures))
