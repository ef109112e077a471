use Rattle.html_render_layout_buffer.proofs.TagLists.{length-is}
use Rattle.html_render_layout_buffer.proofs.runs.TagRuns.len.Goals as goal

pub returns : goal.returns
returns g c = length-is _ _ _ _ c.self.invariant c.self.view_is
